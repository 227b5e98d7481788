-- A list put in an order, each element once, by plain insertion. (Where two tie the later one stays; lists in byte
-- order of a key, of which the first stays, are `in_order_once` of crate `words`.)
use Rattle.std.specs.Prelude.{List, [], ◌∷◌}
use Rattle.std.specs.declared.cmp.Ordering.{Ordering}
use Rattle.std.specs.Ordering.{match_ordering}

-- a list in order with an element put in; one that ties with an element of the list is left out
abbrev pub inserted : {X : Type 0} → (X → X → Ordering) → X → List X → List X
inserted cmp x [] = x ∷ []
inserted cmp x (y ∷ ys) = match_ordering (cmp x y) (x ∷ y ∷ ys) (y ∷ ys) (y ∷ inserted cmp x ys)

abbrev pub sorted_once : {X : Type 0} → (X → X → Ordering) → List X → List X
sorted_once cmp [] = []
sorted_once cmp (x ∷ xs) = inserted cmp x (sorted_once cmp xs)
