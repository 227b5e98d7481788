-- The numbers of the elements of a list that pass a test, in order. (Our own.)
use Rattle.std.specs.Prelude.{ℕ, Bool, List, map, filter}
use Rattle.std.specs.List.{enumerate_from}

-- a number of an element is its place in the list
abbrev pub places : {X : Type 0} → (X → Bool) → List X → List ℕ
places p xs = map (λ e. e.0) (filter (λ e. p e.1) (enumerate_from 0 xs))
