-- Names by which a map finds the place of the first of each. (Our own.)
use Rattle.std.specs.Prelude.{◌≡◌, ℕ, zero, suc, List, [], ◌∷◌, Option, None, Some, find, option_map, if◌then◌else◌}
use Rattle.std.specs.Ordering.{nat_cmp}
use Rattle.std.specs.BTreeMap.{BTreeMap, get}
use Rattle.std.specs.Cmp.Lexicographic.{slice_cmp}
use Rattle.std.specs.Str.{bytes_eq}
use denote.Ref.{Bor}

-- the place of the first name that is the given one
abbrev pub place_in : List (List ℕ) → List ℕ → Option ℕ
place_in [] name = None
place_in (other ∷ names) name = if bytes_eq other name then Some zero else option_map suc (place_in names name)

-- the first record of a name
abbrev pub named_in : {X : Type 0} → (X → List ℕ) → List X → List ℕ → Option X
named_in named items name = find (λ x. bytes_eq (named x) name) items

-- the map has, for each name of the list, the place of the first such name, and nothing else
abbrev pub HoldsPlaces : List (List ℕ) → BTreeMap (Bor (List ℕ)) ℕ → Type 0
HoldsPlaces names map = (q : Bor (List ℕ)) → get (λ a b. slice_cmp nat_cmp a.now b.now) map q ≡ place_in names q.now
