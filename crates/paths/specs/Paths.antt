-- Paths, and the path that is taken. (After PathFinder: a path of least weight, where a wire weighs more the more
-- often it was in the way. Which of the least is taken is our own.)
use Rattle.std.specs.Prelude.{◌≡◌, ◌≢◌, ℕ, ◌+◌, ◌≤◌, List, [], ◌∷◌}
use Rattle.std.specs.declared.cmp.Ordering.TheVariants.{Greater}
use Rattle.std.specs.Cmp.Lexicographic.{slice_cmp}
use Rattle.words.specs.Members.{In}
use Rattle.paths.specs.Roads.{Roads, IsBelow}

-- arcs that may be taken lead on from a wire to a pin: each source is below the sink before it, the first below
-- the wire, and the pin is below the last sink
abbrev pub LeadsOn : {A : Type 0} → Roads A → ℕ → List A → ℕ → Type 0
LeadsOn roads w [] pin = IsBelow roads w pin
LeadsOn roads w (a ∷ rest) pin = IsBelow roads w (roads.source a) × roads.MayTake a × LeadsOn roads (roads.sink a) rest pin

-- A path from a tree to a pin: the first source is in the tree, each later source is below the sink before it,
-- and the pin is below the last sink. A pin in the tree has the empty path.
abbrev pub IsPath : {A : Type 0} → Roads A → (ℕ → Type 0) → List A → ℕ → Type 0
IsPath roads InTree [] pin = InTree pin
IsPath roads InTree (a ∷ rest) pin = InTree (roads.source a) × roads.MayTake a × LeadsOn roads (roads.sink a) rest pin

-- the weight of a path is that of its sinks
abbrev pub weight_of : {A : Type 0} → Roads A → (ℕ → ℕ) → List A → ℕ
weight_of roads weight [] = 0
weight_of roads weight (a ∷ rest) = weight (roads.sink a) + weight_of roads weight rest

-- The path to a pin: one of least weight, and of these the first, where lists of arcs are compared element by
-- element.
pub record IsThePath {A : Type 0} (roads : Roads A) (weight : ℕ → ℕ) (InTree : ℕ → Type 0) (path : List A) (pin : ℕ) : Type 0 where
  pub is_path : IsPath roads InTree path pin
  pub least : (other : List A) → IsPath roads InTree other pin → weight_of roads weight path ≤ weight_of roads weight other
  pub first : (other : List A) → IsPath roads InTree other pin → weight_of roads weight other ≡ weight_of roads weight path
      → slice_cmp roads.cmp path other ≢ Greater

-- no sink stands twice
abbrev pub HasNoSinkTwice : {A : Type 0} → Roads A → List A → Type 0
HasNoSinkTwice roads [] = Unit {0}
HasNoSinkTwice {A} roads (a ∷ rest) = ((b : A) → In rest b → roads.sink b ≢ roads.sink a) × HasNoSinkTwice roads rest
