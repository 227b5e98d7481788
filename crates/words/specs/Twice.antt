-- Lists in which nothing stands twice.
use Rattle.std.specs.Prelude.{List, [], ◌∷◌}
use Rattle.words.specs.Members.{In}

-- no element stands in the list twice
abbrev pub HasNoneTwice : {X : Type 0} → List X → Type 0
HasNoneTwice [] = Unit {0}
HasNoneTwice (x ∷ xs) = (In xs x → ⊥) × HasNoneTwice xs

-- no two elements of a list are alike
abbrev pub NoTwo : {X : Type 0} → (X → X → Type 0) → List X → Type 0
NoTwo Alike [] = Unit {0}
NoTwo {X} Alike (x ∷ xs) = ((y : X) → In xs y → Alike x y → ⊥) × NoTwo Alike xs
