-- Lists in byte order of a key. (Our own.)
use Rattle.std.specs.Prelude.{◌≢◌, ℕ, List, [], ◌∷◌}
use Rattle.std.specs.declared.cmp.Ordering.TheVariants.{Greater}
use Rattle.std.specs.Ordering.{nat_cmp, match_ordering}
use Rattle.std.specs.Cmp.Lexicographic.{slice_cmp}
use Rattle.words.specs.Members.{In}

-- an element in its place among others in order: before those with the same key
abbrev pub put_in_order : {X : Type 0} → (X → List ℕ) → X → List X → List X
put_in_order key x [] = x ∷ []
put_in_order key x (y ∷ ys) = match_ordering (slice_cmp nat_cmp (key x) (key y)) (x ∷ y ∷ ys) (x ∷ y ∷ ys) (y ∷ put_in_order key x ys)

-- in its place, where it takes the place of one with the same key
abbrev pub put_once : {X : Type 0} → (X → List ℕ) → X → List X → List X
put_once key x [] = x ∷ []
put_once key x (y ∷ ys) = match_ordering (slice_cmp nat_cmp (key x) (key y)) (x ∷ y ∷ ys) (x ∷ ys) (y ∷ put_once key x ys)

-- the elements in byte order of their keys; those of one key stay in the order of the list
abbrev pub in_order : {X : Type 0} → (X → List ℕ) → List X → List X
in_order key [] = []
in_order key (x ∷ xs) = put_in_order key x (in_order key xs)

-- the same without repeats: of one key the first of the list
abbrev pub in_order_once : {X : Type 0} → (X → List ℕ) → List X → List X
in_order_once key [] = []
in_order_once key (x ∷ xs) = put_once key x (in_order_once key xs)

-- no element has a key that comes after the key of one behind it
abbrev pub IsInOrder : {X : Type 0} → (X → List ℕ) → List X → Type 0
IsInOrder key [] = Unit {0}
IsInOrder {X} key (x ∷ xs) = ((y : X) → In xs y → slice_cmp nat_cmp (key x) (key y) ≢ Greater) × IsInOrder key xs
