-- Whether the tables of a triple give different outputs. (Our own.)
use Rattle.std.specs.Prelude.{◌≡◌, ℕ, Bool, List, ◌++◌, codes, Option, None, Some}
use Rattle.std.specs.Global.{Vec}
use Rattle.std.specs.Cmp.Lexicographic.{slice_cmp}
use Rattle.records.specs.Side.{Triple}
use Rattle.circuit.specs.Circuits.{Circuit}
use Rattle.design_checks.specs.Checks.{IsLeast}
use Rattle.design_checks.specs.CopyChecks.{TablesDiffer, digit_cmp, digits_or_dash}

-- the text of the least digits at which the tables of a triple give different outputs, and of the outputs, or none where they
-- give different ones nowhere
abbrev pub TellsTables : Circuit → Triple → ℕ → Option (Vec ℕ) → Type 0
TellsTables c t number None = (digits : List Bool) (outputs : List ℕ) → TablesDiffer c t number digits outputs → ⊥
TellsTables c t number (Some text) = (digits : List Bool) × ((outputs : List ℕ) × (TablesDiffer c t number digits outputs
    × IsLeast (slice_cmp digit_cmp) (λ other. (x : List ℕ) × TablesDiffer c t number other x) digits × (text.items ≡ digits_or_dash digits ++ codes " " ++ outputs)))
