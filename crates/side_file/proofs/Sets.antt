-- Sets that know the keys of some elements, as one element is added.
use Rattle.std.proofs.Common.{◌≡◌, ℕ, List, [], ◌∷◌, ◌++◌, Bool, true, false, cond, ◌&&◌, ◌||◌, ◌==◌, bytes_eq, nat_eq, nat_cmp, refl, ap, sym, ◌∙◌, Ordering, Less, Equal, Greater, arith}
use Rattle.std.specs.Ordering.{is_eq, ordering_then}
use Rattle.std.specs.List.{list_any}
use Rattle.std.specs.BTreeSet.{BTreeSet, contains_by}
use Rattle.std.specs.Cmp.Lexicographic.{slice_cmp}
use Rattle.std.proofs.lemmas.Bool.Decides.{nat_tests}
use Rattle.std.proofs.lemmas.Slice.Eq.{bytes_eq-Decides}
use Rattle.std.proofs.lemmas.Cmp.{nat_list_eq_equiv}
use Rattle.std.proofs.lemmas.List.Folds.{list_any-append}
use Rattle.std.proofs.lemmas.Map.Text.{is_eq-slice_cmp}
use Rattle.records.specs.Side.{Domain, Placed, Voter}
use Rattle.side_form.specs.Side.{same_domain}
use Rattle.side_file.specs.Digest.{digest_of}
use Rattle.side_file.specs.Known.{Lent, NameKey, SiteKey, Knows, digest_order, numbered_order, numbered_pair_order, site_order, table_order, KnowsNames, KnowsCells, KnowsSites, KnowsVoters, KnowsDomain}

-- ---- orders tie where the tests hold

-- an order by two in turn ties where both do
ties_then : (a b : Ordering) → is_eq (ordering_then a b) ≡ (is_eq a && is_eq b)
ties_then Less b = refl
ties_then Equal b = refl
ties_then Greater b = refl

name_ties : (a b : List ℕ) → is_eq (slice_cmp nat_cmp a b) ≡ bytes_eq a b
name_ties a b = is_eq-slice_cmp a b

name_ties_back : (a b : List ℕ) → is_eq (slice_cmp nat_cmp a b) ≡ bytes_eq b a
name_ties_back a b = is_eq-slice_cmp a b ∙ nat_list_eq_equiv.symm a b

number_ties : (a b : ℕ) → is_eq (nat_cmp a b) ≡ nat_eq b a
number_ties a b = grind (arith, nat_tests)

and_false : (a : Bool) → (a && false) ≡ false
and_false true = refl
and_false false = refl

-- what is equal has equal digests
digests_agree : (f : List ℕ → ℕ) (a b : List ℕ) (e : Bool) → bytes_eq a b ≡ e → (nat_eq (f b) (f a) && e) ≡ e
digests_agree f a b true same = rw (← (bytes_eq-Decides a b).0 same) (grind (arith, nat_tests))
digests_agree f a b false other = and_false (nat_eq (f b) (f a))

digest_ties : (a b : List ℕ) → is_eq (ordering_then (nat_cmp (digest_of a) (digest_of b)) (slice_cmp nat_cmp a b)) ≡ bytes_eq a b
digest_ties a b =
    ties_then (nat_cmp (digest_of a) (digest_of b)) (slice_cmp nat_cmp a b)
    ∙ rw (number_ties (digest_of a) (digest_of b), name_ties a b) (digests_agree digest_of a b (bytes_eq a b) refl)

digest_ties_back : (a b : List ℕ) → is_eq (ordering_then (nat_cmp (digest_of a) (digest_of b)) (slice_cmp nat_cmp a b)) ≡ bytes_eq b a
digest_ties_back a b = digest_ties a b ∙ nat_list_eq_equiv.symm a b

-- the same, of a key that has the digest and the bytes of a name
key_ties : (key : ℕ × List ℕ) (name q : List ℕ) → key.0 ≡ digest_of name → key.1 ≡ name
    → is_eq (ordering_then (nat_cmp key.0 (digest_of q)) (slice_cmp nat_cmp key.1 q)) ≡ bytes_eq name q
key_ties key name q digest bytes = rw (digest, bytes) (digest_ties name q)

key_ties_back : (key : ℕ × List ℕ) (name q : List ℕ) → key.0 ≡ digest_of name → key.1 ≡ name
    → is_eq (ordering_then (nat_cmp key.0 (digest_of q)) (slice_cmp nat_cmp key.1 q)) ≡ bytes_eq q name
key_ties_back key name q digest bytes = rw (digest, bytes) (digest_ties_back name q)

-- ---- one more key

-- a name, as one that is lent from somewhere
abbrev lent : List ℕ → Lent
lent name = record { ref_ptr = (0, 0); now = name }

-- a set has one more key
abbrev pub Gets : {Q K : Type 0} → (Q → K → Ordering) → (K → Q) → Q → BTreeSet K → BTreeSet K → Type 0
Gets {Q} {K} order said key old new = (q : K) → contains_by (order (said q)) new ≡ cond (is_eq (order key q)) true (contains_by (order (said q)) old)

abbrev pub GetsName : ℕ × List ℕ → BTreeSet NameKey → BTreeSet NameKey → Type 0
GetsName = Gets numbered_order (λ key. (key.0, key.1.now))

abbrev pub GetsSite : ℕ × (List ℕ × List ℕ) → BTreeSet SiteKey → BTreeSet SiteKey → Type 0
GetsSite = Gets numbered_pair_order (λ key. (key.0, (key.1.0.now, key.1.1.now)))

abbrev pub GetsTable : List ℕ × ℕ → BTreeSet (Lent × ℕ) → BTreeSet (Lent × ℕ) → Type 0
GetsTable = Gets table_order (λ lent. (lent.0.now, lent.1))

-- there, or else there before
or_there : (b c : Bool) → cond b true c ≡ (c || (b || false))
or_there true true = refl
or_there true false = refl
or_there false true = refl
or_there false false = refl

knows_more : {X Q K : Type 0} (order : Q → K → Ordering) (has : X → Q → Bool) (ties : Q → Bool) (x : X) (xs : List X) (old new : BTreeSet K)
    → ((q : Q) → ties q ≡ has x q) → Knows order has old xs → ((q : Q) → contains_by (order q) new ≡ cond (ties q) true (contains_by (order q) old)) → Knows order has new (xs ++ x ∷ [])
knows_more order has ties x xs old new same known updated q =
    updated q ∙ rw (same q, known q, list_any-append (λ y. has y q) xs (x ∷ [])) (or_there (has x q) (list_any (λ y. has y q) xs))

pub one_more_name : (names : List (List ℕ)) (name : List ℕ) (key : ℕ × List ℕ) (old new : BTreeSet NameKey) → key.0 ≡ digest_of name → key.1 ≡ name → KnowsNames old names → GetsName key old new
    → KnowsNames new (names ++ name ∷ [])
one_more_name names name key old new digest bytes known updated =
    knows_more digest_order (λ n q. bytes_eq q n) (λ q. is_eq (ordering_then (nat_cmp key.0 (digest_of q)) (slice_cmp nat_cmp key.1 q))) name names old new
    (λ q. key_ties_back key name q digest bytes) known (λ q. updated (digest_of q, lent q))

pub one_more_cell : (cells : List Placed) (cell : Placed) (key : ℕ × List ℕ) (old new : BTreeSet NameKey) → key.0 ≡ digest_of cell.name → key.1 ≡ cell.name → KnowsCells old cells → GetsName key old new
    → KnowsCells new (cells ++ cell ∷ [])
one_more_cell cells cell key old new digest bytes known updated =
    knows_more digest_order (λ (c : Placed) q. bytes_eq c.name q) (λ q. is_eq (ordering_then (nat_cmp key.0 (digest_of q)) (slice_cmp nat_cmp key.1 q))) cell cells old new
    (λ q. key_ties key cell.name q digest bytes) known (λ q. updated (digest_of q, lent q))

-- orders in turn, however they are grouped
then_in_turn : (a b c : Ordering) → ordering_then a (ordering_then b c) ≡ ordering_then (ordering_then a b) c
then_in_turn Less b c = refl
then_in_turn Equal b c = refl
then_in_turn Greater b c = refl

site_ties : (key : ℕ × (List ℕ × List ℕ)) (tile kind : List ℕ) (q : List ℕ × List ℕ) → key.0 ≡ digest_of tile → key.1.0 ≡ tile → key.1.1 ≡ kind
    → is_eq (ordering_then (nat_cmp key.0 (digest_of q.0)) (ordering_then (slice_cmp nat_cmp key.1.0 q.0) (slice_cmp nat_cmp key.1.1 q.1))) ≡ (bytes_eq tile q.0 && bytes_eq kind q.1)
site_ties key tile kind q digest first second =
    ap is_eq (then_in_turn (nat_cmp key.0 (digest_of q.0)) (slice_cmp nat_cmp key.1.0 q.0) (slice_cmp nat_cmp key.1.1 q.1))
    ∙ ties_then (ordering_then (nat_cmp key.0 (digest_of q.0)) (slice_cmp nat_cmp key.1.0 q.0)) (slice_cmp nat_cmp key.1.1 q.1)
    ∙ rw (key_ties (key.0, key.1.0) tile q.0 digest first, name_ties key.1.1 q.1, second) refl

pub one_more_site : (cells : List Placed) (cell : Placed) (key : ℕ × (List ℕ × List ℕ)) (old new : BTreeSet SiteKey) → key.0 ≡ digest_of cell.tile → key.1.0 ≡ cell.tile → key.1.1 ≡ cell.kind
    → KnowsSites old cells → GetsSite key old new → KnowsSites new (cells ++ cell ∷ [])
one_more_site cells cell key old new digest tile kind known updated =
    knows_more site_order (λ (c : Placed) q. bytes_eq c.tile q.0 && bytes_eq c.kind q.1)
    (λ q. is_eq (ordering_then (nat_cmp key.0 (digest_of q.0)) (ordering_then (slice_cmp nat_cmp key.1.0 q.0) (slice_cmp nat_cmp key.1.1 q.1)))) cell cells old new
    (λ q. site_ties key cell.tile cell.kind q digest tile kind) known (λ q. updated (digest_of q.0, (lent q.0, lent q.1)))

pub one_more_voter : (voters : List Voter) (voter : Voter) (key : List ℕ × ℕ) (old new : BTreeSet (Lent × ℕ)) → key.0 ≡ voter.slice → key.1 ≡ voter.table → KnowsVoters old voters
    → GetsTable key old new → KnowsVoters new (voters ++ voter ∷ [])
one_more_voter voters voter key old new slice table known updated =
    knows_more table_order (λ (v : Voter) q. bytes_eq q.0 v.slice && (q.1 == v.table))
    (λ q. is_eq (ordering_then (slice_cmp nat_cmp key.0 q.0) (nat_cmp key.1 q.1))) voter voters old new
    (λ q. ties_then (slice_cmp nat_cmp key.0 q.0) (nat_cmp key.1 q.1)
    ∙ rw (name_ties_back key.0 q.0, number_ties key.1 q.1, slice, table) refl) known (λ q. updated (lent q.0, q.1))

-- ---- cells of a domain

and_true : (a b : Bool) → b ≡ true → a ≡ (a && b)
and_true true b e = sym e
and_true false b e = refl

-- a cell of the domain
pub one_more_in_domain : (domain : Domain) (cells : List Placed) (cell : Placed) (key : ℕ × List ℕ) (old new : BTreeSet NameKey) → key.0 ≡ digest_of cell.name → key.1 ≡ cell.name
    → same_domain cell.domain domain ≡ true → KnowsDomain domain old cells → GetsName key old new → KnowsDomain domain new (cells ++ cell ∷ [])
one_more_in_domain domain cells cell key old new digest bytes same known updated =
    knows_more digest_order (λ (c : Placed) q. bytes_eq c.name q && same_domain c.domain domain) (λ q. is_eq (ordering_then (nat_cmp key.0 (digest_of q)) (slice_cmp nat_cmp key.1 q))) cell cells old new
    (λ q. key_ties key cell.name q digest bytes ∙ and_true (bytes_eq cell.name q) (same_domain cell.domain domain) same) known (λ q. updated (digest_of q, lent q))

or_not : (a b c : Bool) → b ≡ false → c ≡ (c || ((a && b) || false))
or_not true true c e = cc
or_not true false true e = refl
or_not true false false e = refl
or_not false b true e = refl
or_not false b false e = refl

-- a cell of another domain
pub one_more_elsewhere : (domain : Domain) (cells : List Placed) (cell : Placed) (set : BTreeSet NameKey) → same_domain cell.domain domain ≡ false → KnowsDomain domain set cells
    → KnowsDomain domain set (cells ++ cell ∷ [])
one_more_elsewhere domain cells cell set other known q =
    known q
    ∙ (rw (list_any-append (λ (c : Placed). bytes_eq c.name q && same_domain c.domain domain) cells (cell ∷ []))
    (or_not (bytes_eq cell.name q) (same_domain cell.domain domain) (list_any (λ (c : Placed). bytes_eq c.name q && same_domain c.domain domain) cells) other))
