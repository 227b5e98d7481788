-- Lists in order, each element once.
use Rattle.std.specs.Prelude.{◌≡◌, List, [], ◌∷◌, ◌↔◌}
use Rattle.std.specs.declared.cmp.Ordering.{Ordering}
use Rattle.std.specs.declared.cmp.Ordering.TheVariants.{Less}
use Rattle.words.specs.Members.{In}

-- each element comes before all those behind it
abbrev pub IsRising : {X : Type 0} → (X → X → Ordering) → List X → Type 0
IsRising cmp [] = Unit {0}
IsRising {X} cmp (x ∷ xs) = ((y : X) → In xs y → cmp x y ≡ Less) × IsRising cmp xs

-- the second list has the elements of the first, in order, each once
pub record InOrderOnce {X : Type 0} (cmp : X → X → Ordering) (named xs : List X) : Type 0 where
  pub rising : IsRising cmp xs
  pub members : (x : X) → In xs x ↔ In named x
