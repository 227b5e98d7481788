-- A check that passes exactly where a property holds. (Our own.)
use Rattle.answers.specs.Refusals.{Refusal}
use Rattle.design_checks.specs.Checks.{Passes}

-- where the check refuses nothing the property holds, and where the property holds it refuses nothing
pub record PassesWhere (check : Refusal → Type 0) (Holds : Type 0) : Type 0 where
  pub holds : Passes check → Holds
  pub passes : Holds → Passes check
