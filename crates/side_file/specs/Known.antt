-- What sets know of the elements before.
use Rattle.std.specs.Prelude.{◌≡◌, ℕ, Bool, List, ◌==◌, ◌&&◌}
use Rattle.std.specs.Ordering.{nat_cmp, ordering_then}
use Rattle.std.specs.List.{list_any}
use Rattle.std.specs.BTreeSet.{BTreeSet, contains_by}
use Rattle.std.specs.Cmp.Lexicographic.{slice_cmp}
use Rattle.std.specs.Str.{bytes_eq}
use Rattle.std.specs.declared.cmp.Ordering.{Ordering}
use denote.Ref.{Bor}
use Rattle.records.specs.Side.{Domain, Placed, Voter}
use Rattle.side_form.specs.Side.{same_domain}
use Rattle.side_file.specs.Digest.{digest_of}

-- A name that is lent.
abbrev pub Lent : Type 0
Lent = Bor (List ℕ)

-- A lent name behind its digest, and a site behind that of its tile.
abbrev pub NameKey : Type 0
NameKey = ℕ × Lent

abbrev pub SiteKey : Type 0
SiteKey = ℕ × (Lent × Lent)

-- ---- orders of a key, beside a key that a set has

abbrev pub name_order : List ℕ → Lent → Ordering
name_order name key = slice_cmp nat_cmp name key.now

-- a name behind a number goes by the number, and then by the name
abbrev pub numbered_order : ℕ × List ℕ → NameKey → Ordering
numbered_order name key = ordering_then (nat_cmp name.0 key.0) (name_order name.1 key.1)

-- a name goes by its digest first
abbrev pub digest_order : List ℕ → NameKey → Ordering
digest_order name key = numbered_order (digest_of name, name) key

-- two names behind a number go by the number, and then by one name after the other
abbrev pub numbered_pair_order : ℕ × (List ℕ × List ℕ) → SiteKey → Ordering
numbered_pair_order pair key = ordering_then (nat_cmp pair.0 key.0) (ordering_then (name_order pair.1.0 key.1.0) (name_order pair.1.1 key.1.1))

-- a site goes by the digest of its tile, its tile, and then by its kind
abbrev pub site_order : List ℕ × List ℕ → SiteKey → Ordering
site_order site key = numbered_pair_order (digest_of site.0, site) key

-- a voter goes by its slice, and then by its table
abbrev pub table_order : List ℕ × ℕ → Lent × ℕ → Ordering
table_order table key = ordering_then (name_order table.0 key.0) (nat_cmp table.1 key.1)

-- ---- what sets hold

-- a name is in a set
abbrev pub has_name : BTreeSet NameKey → List ℕ → Bool
has_name set name = contains_by (digest_order name) set

-- the set holds just the keys that some element has
abbrev pub Knows : {X Q K : Type 0} → (Q → K → Ordering) → (X → Q → Bool) → BTreeSet K → List X → Type 0
Knows {X} {Q} {K} order has set xs = (q : Q) → contains_by (order q) set ≡ list_any (λ x. has x q) xs

-- the set holds just these names
abbrev pub KnowsNames : BTreeSet NameKey → List (List ℕ) → Type 0
KnowsNames set names = Knows digest_order (λ name q. bytes_eq q name) set names

-- the set holds just the names of these cells
abbrev pub KnowsCells : BTreeSet NameKey → List Placed → Type 0
KnowsCells set cells = Knows digest_order (λ (cell : Placed) q. bytes_eq cell.name q) set cells

-- the set holds just the sites of these cells
abbrev pub KnowsSites : BTreeSet SiteKey → List Placed → Type 0
KnowsSites set cells = Knows site_order (λ (cell : Placed) q. bytes_eq cell.tile q.0 && bytes_eq cell.kind q.1) set cells

-- the set holds just the slices and tables of these voters
abbrev pub KnowsVoters : BTreeSet (Lent × ℕ) → List Voter → Type 0
KnowsVoters set voters = Knows table_order (λ (voter : Voter) q. bytes_eq q.0 voter.slice && (q.1 == voter.table)) set voters

-- the set holds just the names of the cells in a domain
abbrev pub KnowsDomain : Domain → BTreeSet NameKey → List Placed → Type 0
KnowsDomain domain set cells = Knows digest_order (λ (cell : Placed) q. bytes_eq cell.name q && same_domain cell.domain domain) set cells
