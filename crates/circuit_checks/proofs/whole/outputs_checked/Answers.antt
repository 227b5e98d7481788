use Rattle.std.proofs.Common.{◌≡◌, ℕ, List, [], ◌∷◌, length, true, refl, sym, ap, ◌∙◌, arith}
use Rattle.std.specs.Prelude.{◌==◌}
use Rattle.std.proofs.lemmas.Bool.Decides.{nat_tests}
use Rattle.records.specs.Side.{Side, Triple}
use Rattle.answers.specs.Refusals.{NoOutputs}
use Rattle.design_checks.specs.DesignChecks.{OutputsMissing, none}
use Rattle.load_routing.proofs.Checked.{refused_by}
use Rattle.circuit_checks.proofs.whole.outputs_checked.Goals as goal

equal_number : (x y : ℕ) → (x == y) ≡ true → x ≡ y
equal_number x y h = grind (arith, nat_tests)

empty : (ts : List Triple) → (length ts == 0) ≡ true → ts ≡ []
empty [] h = refl
empty (t ∷ ts) h = (let e : length (t ∷ ts) ≡ 0 = equal_number (length (t ∷ ts)) 0 h in absurd (let no : ⊥ = omega arith in no))

pub returns-then-is_empty : goal.returns-then-is_empty
returns-then-is_empty c =
    let outputs : c.args.listed.now.side.now.outputs ≡ [] = sym (ap (λ (s : Side). s.outputs) c.side.view_is) ∙ empty c.side.inside.outputs (sym c.if-is_empty.ensures) in
    refused_by (OutputsMissing c.args.listed.now.side.now) NoOutputs c.refuse.result (none outputs) c.refuse.ensures
