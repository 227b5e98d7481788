-- How answers come about, check by check.
use Rattle.std.proofs.Common.{◌≡◌, List, ℕ, inl, inr, ap, subst, ◌∙◌}
use Rattle.std.specs.Prelude.{Result, Ok, Err, IfOk}
use Rattle.std.specs.declared.alloc.AllocError.{AllocError}
use Rattle.records.specs.Side.{Side}
use Rattle.fabric.specs.Device.{Device}
use Rattle.fabric.specs.Graph.{Graph}
use Rattle.fabric.specs.GraphOf.{IsGraph}
use Rattle.answers.specs.Answers as status
use Rattle.answers.specs.Answers.{Answer}
use Rattle.answers.specs.Refusals.{Refusal}
use Rattle.design_files.specs.Designs.{Design}
use Rattle.design_checks.specs.Checks.{Passes, ◌before◌}
use Rattle.design_checks.specs.DesignChecks.{GraphRefused, TextRefused, CellsRefused, DesignRefused}
use Rattle.check_laws.proofs.Passing.{both_pass}
use Rattle.fabric_laws.proofs.Graphs.{one_graph}
use Rattle.load_routing.specs.declared.error.LoadError.{LoadError}
use Rattle.load_routing.specs.declared.error.LoadError.TheVariants.{Refused, Memory}
use Rattle.load_routing.specs.Refused.{IsRefusedBy}
use Rattle.check_command.specs.Checked.{accepted_answer, IsCheckedBy, IsCheckedAs, AnswersError}

-- where checks pass, the counts are the answer
pub accepted_by : (check : Refusal → Type 0) (side : Side) (result : Result Answer AllocError) → Passes check → IfOk result (λ answer. answer ≡ accepted_answer side)
    → IfOk result (IsCheckedBy check side)
accepted_by check side (Ok answer) passes is = inl (passes, is)
accepted_by check side (Err e) passes is = tt

-- where they refuse, the line of the refusal is
pub refused_by : (check : Refusal → Type 0) (side : Side) (error : LoadError) (result : Result Answer AllocError) → IsRefusedBy check error → AnswersError error result
    → IfOk result (IsCheckedBy check side)
refused_by check side (Refused text) (Ok answer) by is =
    inr (by.0, (by.1.0, is ∙ ap (λ (t : List ℕ). let a : Answer = record { status = status.Refused; text = t } in a) by.1.1))
refused_by check side (Refused text) (Err e) by is = tt
refused_by check side Memory (Ok answer) by is = absurd is
refused_by check side Memory (Err e) by is = tt

behind : (first second : Refusal → Type 0) (side : Side) (answer : Answer) → Passes first → IsCheckedBy second side answer → IsCheckedBy (first before second) side answer
behind first second side answer passes by = elim by [
  | inl p ↦ inl (both_pass first second passes p.0, p.1)
  | inr r ↦ inr (r.0, (inr (passes, r.1.0), r.1.1))
]

-- over the one graph of a device
pub whole_checked : (design : Design) (device : Device) (g : Graph) (result : Result Answer AllocError) → IsGraph device g → device ≡ design.device → Passes (GraphRefused design g)
    → IfOk result (IsCheckedBy (TextRefused design g before CellsRefused design g) design.side) → IfOk result (IsCheckedAs design)
whole_checked design device g (Ok answer) is its passes by = λ h ih.
    subst (λ (x : Graph). IsCheckedBy (DesignRefused design x) design.side answer) (one_graph design.device g h (subst (λ (d : Device). IsGraph d g) its is) ih)
    (behind (GraphRefused design g) (TextRefused design g before CellsRefused design g) design.side answer passes by)
whole_checked design device g (Err e) is its passes by = tt

first_refuses : (first second : Refusal → Type 0) (error : LoadError) → IsRefusedBy first error → IsRefusedBy (first before second) error
first_refuses first second (Refused text) by = (by.0, (inl by.1.0, by.1.1))
first_refuses first second Memory by = tt

at_graph : (design : Design) (error : LoadError) (answer : Answer) → ((g : Graph) → IsGraph design.device g → IsRefusedBy (GraphRefused design g) error) → AnswersError error (Ok answer)
    → IsCheckedAs design answer
at_graph design error answer by is g ig =
    refused_by (DesignRefused design g) design.side error (Ok answer) (first_refuses (GraphRefused design g) (TextRefused design g before CellsRefused design g) error (by g ig)) is

-- where a check of the graph refuses, so do all checks
pub graph_refuses : (design : Design) (error : LoadError) (result : Result Answer AllocError) → ((g : Graph) → IsGraph design.device g → IsRefusedBy (GraphRefused design g) error) → AnswersError error result
    → IfOk result (IsCheckedAs design)
graph_refuses design error (Ok answer) by is = at_graph design error answer by is
graph_refuses design error (Err e) by is = tt
