-- Places of a list in rows under their keys. (Our own.)
use Rattle.std.specs.Prelude.{ℕ, List, map, ◌==◌}
use Rattle.std.specs.List.{range_with_len}
use Rattle.graph_lists.specs.Places.{places}

-- the places where a key has a number, as numbers of another kind
abbrev pub places_of : {K P : Type 0} → (K → ℕ) → (ℕ → P) → List K → ℕ → List P
places_of number id keys k = map id (places (λ key. number key == k) keys)

-- the rows of all numbers below a count
abbrev pub place_rows : {K P : Type 0} → (K → ℕ) → (ℕ → P) → ℕ → List K → List (List P)
place_rows number id count keys = map (places_of number id keys) (range_with_len 0 count)

-- elements in rows under their keys: for each number below a count the places of the elements whose key it is, in order
abbrev pub rows_by : {X : Type 0} → (X → ℕ) → ℕ → List X → List (List ℕ)
rows_by key count xs = map (λ k. places (λ x. key x == k) xs) (range_with_len 0 count)
