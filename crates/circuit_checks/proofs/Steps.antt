-- Checks in a row as answers.
use Rattle.std.proofs.Common.{◌≡◌, Ok, Err, refl}
use Rattle.std.specs.Prelude.{Result, MatchResult}
use Rattle.answers.specs.Refusals.{Refusal}
use Rattle.design_checks.specs.Checks.{Passes, ◌before◌}
use Rattle.load_routing.specs.declared.error.LoadError.{LoadError}
use Rattle.load_routing.specs.Refused.{IsRefusedBy}
use Rattle.load_routing.proofs.Checked.{second_refuses, both_pass}

-- the first check passed: what the second answers is the answer of both
pub then_second : {X : Type 0} (first second : Refusal → Type 0) (r : Result X LoadError) → Passes first → MatchResult r (λ _. Passes second) (IsRefusedBy second)
    → MatchResult r (λ _. Passes (first before second)) (IsRefusedBy (first before second))
then_second first second (Ok x) p h = both_pass first second p h
then_second first second (Err e) p h = second_refuses first second e p h

-- the same where a value is given
pub then_given : {X : Type 0} (Given : X → Type 0) (first second : Refusal → Type 0) (r : Result X LoadError) → ((x : X) → r ≡ Ok x → Given x) → Passes first
    → MatchResult r (λ _. Passes second) (IsRefusedBy second)
    → MatchResult r (λ x. Given x × Passes (first before second)) (IsRefusedBy (first before second))
then_given Given first second (Ok x) g p h = (g x refl, both_pass first second p h)
then_given Given first second (Err e) g p h = second_refuses first second e p h
