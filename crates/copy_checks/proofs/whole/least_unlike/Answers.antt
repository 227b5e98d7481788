use Rattle.std.proofs.Common.{sym, ap, ◌∙◌}
use Rattle.std.proofs.lemmas.Result.{IfOk-weaker}
use Rattle.records.specs.Side.{Side}
use Rattle.copy_checks.proofs.Telling.{copies_told}
use Rattle.copy_checks.proofs.whole.least_unlike.Goals as goal

pub returns : goal.returns
returns c = IfOk-weaker c.with_outputs.result _ _
    (λ r outputs circuit is side_is.
    let slices_are = ap (λ (s : Side). s.triples) side_is ∙ sym (c.as_slice.ensures ∙ ap (λ (s : Side). s.triples) c.side.view_is) in
    let outputs_are = ap (λ (s : Side). s.outputs) side_is ∙ sym (c.as_slice-2.ensures ∙ ap (λ (s : Side). s.outputs) c.side.view_is) in
    copies_told circuit c.as_slice.result.now c.as_slice-2.result.now slices_are outputs_are c.in_ok-found.found r (c.in_ok-found.ensures circuit is slices_are)
    (outputs circuit is c.in_ok-pads.ensures outputs_are))
    c.with_outputs.ensures
