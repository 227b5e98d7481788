-- Checks in a row, of which the first that fails decides. A check is told by what it refuses. (Our own.)
use Rattle.std.specs.Prelude.{◌≢◌, ◌⊎◌, Option, Some, ◌≡◌}
use Rattle.std.specs.declared.cmp.Ordering.{Ordering}
use Rattle.std.specs.declared.cmp.Ordering.TheVariants.{Greater}
use Rattle.answers.specs.Refusals.{Refusal}

-- a check refuses nothing
abbrev pub Passes : (Refusal → Type 0) → Type 0
Passes check = (r : Refusal) → check r → ⊥

-- one check, and then another: what the first refuses, or where it passes, what the second refuses
infixr 5 ◌before◌
abbrev pub ◌before◌ : (Refusal → Type 0) → (Refusal → Type 0) → Refusal → Type 0
(first before second) r = first r ⊎ (Passes first × second r)

-- the check that a definition computes: it refuses what is there
abbrev pub Computed : Option Refusal → Refusal → Type 0
Computed refusal r = refusal ≡ Some r

-- an element has a property, and comes after no other that has it
pub record IsLeast {X : Type 0} (cmp : X → X → Ordering) (Has : X → Type 0) (x : X) : Type 0 where
  pub has : Has x
  pub least : (y : X) → Has y → cmp x y ≢ Greater
