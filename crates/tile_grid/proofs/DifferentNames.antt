-- A set that lends the names of a list has as many names as there are different ones in the list.
use Rattle.std.proofs.Common.{◌≡◌, ℕ, ◌+◌, ◌<◌, List, [], ◌∷◌, ◌++◌, length, map, take, get_or, Bool, true, false, cond, ◌||◌, bytes_eq, nat_cmp, refl, ap, sym, ◌∙◌, Bor, Ordering, Less}
use Rattle.std.specs.Cmp.Lexicographic.{slice_cmp}
use Rattle.std.specs.List.{list_any, AllByRecursion}
use Rattle.std.specs.List.Sorted.{IsStrictlySortedBy}
use Rattle.std.specs.Ordering.{eq_by_cmp}
use Rattle.std.specs.BTreeMap.{is_at}
use Rattle.std.specs.Set.{is_member, distinct_count}
use Rattle.std.proofs.lemmas.Cmp.{nat_list_eq_equiv}
use Rattle.std.proofs.lemmas.List.{take_more, map-append, length-map}
use Rattle.std.proofs.lemmas.List.Folds.{list_any-append}
use Rattle.std.proofs.lemmas.Map.Keys.{IsDistinct-from_sorted}
use Rattle.std.proofs.lemmas.Map.Made.{length-from_keys}
use Rattle.std.proofs.lemmas.Map.Text.{is_eq-slice_cmp}
use Rattle.records.specs.Grid.{Tile}

-- names that tie in byte order are equal
ties : eq_by_cmp (slice_cmp nat_cmp) ≡ bytes_eq
ties = λ i a b. is_eq-slice_cmp a b i

as_many : (names all : List (List ℕ)) → IsStrictlySortedBy (slice_cmp nat_cmp) names → ((q : List ℕ) → is_member bytes_eq names q ≡ is_member bytes_eq all q)
    → length names ≡ distinct_count bytes_eq all
as_many names all sorted same = length-from_keys nat_list_eq_equiv names all (rw (← ties) (IsDistinct-from_sorted (slice_cmp nat_cmp) names sorted)) same

-- ---- names that are lent

-- the order of names that are lent
abbrev pub lent_cmp : Bor (List ℕ) → Bor (List ℕ) → Ordering
lent_cmp a b = slice_cmp nat_cmp a.now b.now

-- the names, wherever they stand
abbrev names_of : List (Bor (List ℕ)) → List (List ℕ)
names_of keys = map (λ key. key.now) keys

abbrev lent : List ℕ → Bor (List ℕ)
lent name = record { ref_ptr = (0, 0); now = name }

all_less : (name : List ℕ) (keys : List (Bor (List ℕ))) → AllByRecursion (λ key. slice_cmp nat_cmp name key.now ≡ Less) keys → AllByRecursion (λ n. slice_cmp nat_cmp name n ≡ Less) (names_of keys)
all_less name [] less = tt
all_less name (key ∷ keys) less = (less.0, all_less name keys less.1)

names_sorted : (keys : List (Bor (List ℕ))) → IsStrictlySortedBy lent_cmp keys → IsStrictlySortedBy (slice_cmp nat_cmp) (names_of keys)
unfolding IsStrictlySortedBy
names_sorted [] sorted = tt
names_sorted (key ∷ keys) sorted = (all_less key.now keys sorted.0, names_sorted keys sorted.1)

name_there : (q : List ℕ) (keys : List (Bor (List ℕ))) → list_any (is_at (lent_cmp (lent q))) keys ≡ is_member bytes_eq (names_of keys) q
name_there q [] = refl
name_there q (key ∷ keys) = rw (is_eq-slice_cmp q key.now, name_there q keys) refl

-- a set of names that are those of a list
pub count_of_lent : (keys : List (Bor (List ℕ))) (names : List (List ℕ)) → IsStrictlySortedBy lent_cmp keys
    → ((q : Bor (List ℕ)) → list_any (is_at (lent_cmp q)) keys ≡ is_member bytes_eq names q.now) → length keys ≡ distinct_count bytes_eq names
count_of_lent keys names sorted same =
    sym (length-map keys (λ (key : Bor (List ℕ)). key.now))
    ∙ as_many (names_of keys) names (names_sorted keys sorted) (λ q. sym (name_there q keys) ∙ same (lent q))

or_there : (b c : Bool) → cond b true c ≡ (c || (b || false))
or_there true true = refl
or_there true false = refl
or_there false true = refl
or_there false false = refl

-- a name more is in the set
pub one_name_more : (names : List (List ℕ)) (name q : List ℕ)
    → cond (is_at (slice_cmp nat_cmp name) q) true (is_member bytes_eq names q) ≡ is_member bytes_eq (names ++ name ∷ []) q
one_name_more names name q =
    let here : is_at (slice_cmp nat_cmp name) q ≡ bytes_eq q name = is_eq-slice_cmp name q ∙ nat_list_eq_equiv.symm name q in
    rw (list_any-append (bytes_eq q) names (name ∷ [])) (ap (λ b. cond b true (is_member bytes_eq names q)) here ∙ or_there (bytes_eq q name) (is_member bytes_eq names q))

-- the types of one tile more
pub kinds_more : (tiles : List Tile) (i : ℕ) (tile : Tile) → i < length tiles → tile ≡ get_or tiles i tile
    → map (λ t. t.kind) (take (i + 1) tiles) ≡ map (λ t. t.kind) (take i tiles) ++ tile.kind ∷ []
kinds_more tiles i tile within is = rw (take_more tiles i tile within, ← is) (map-append (λ (t : Tile). t.kind) (take i tiles) (tile ∷ []))
