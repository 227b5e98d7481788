use Rattle.std.proofs.Common.{◌≡◌, ◌++◌, ap, sym, ◌∙◌}
use Rattle.records.specs.Side.{Side}
use Rattle.side_file.proofs.Elsewhere.{in_first, in_rest}
use Rattle.side_file.proofs.domains.first_pad_elsewhere.Goals as goal

pub returns-in-Some : goal.returns-in-Some
returns-in-Some c =
    let side = c.args.side.now in
    let inputs : c.as_slice.result.now ≡ side.inputs = c.as_slice.ensures ∙ ap (λ (s : Side). s.inputs) c.side.view_is in
    sym (in_first c.args.sets.now side.inputs (side.outputs ++ side.clocks) c.in-Some.name.now (rw (← inputs) (sym c.in-Some.ensures)))

pub returns-in-Some-first_elsewhere : goal.returns-in-Some-first_elsewhere
returns-in-Some-first_elsewhere c =
    let side = c.args.side.now in
    let inputs : c.as_slice.result.now ≡ side.inputs = c.as_slice.ensures ∙ ap (λ (s : Side). s.inputs) c.side.view_is in
    let outputs : c.as_slice-2.result.now ≡ side.outputs = c.as_slice-2.ensures ∙ ap (λ (s : Side). s.outputs) c.side.view_is in
    sym (
    in_rest c.args.sets.now side.inputs (side.outputs ++ side.clocks) (rw (← inputs) (sym c.in_default.ensures))
    ∙ in_first c.args.sets.now side.outputs side.clocks c.in-Some-first_elsewhere.name.now (rw (← outputs) (sym c.in-Some-first_elsewhere.ensures))
    )

pub returns : goal.returns
returns c =
    let side = c.args.side.now in
    let inputs : c.as_slice.result.now ≡ side.inputs = c.as_slice.ensures ∙ ap (λ (s : Side). s.inputs) c.side.view_is in
    let outputs : c.as_slice-2.result.now ≡ side.outputs = c.as_slice-2.ensures ∙ ap (λ (s : Side). s.outputs) c.side.view_is in
    let clocks : c.as_slice-3.result.now ≡ side.clocks = c.as_slice-3.ensures ∙ ap (λ (s : Side). s.clocks) c.side.view_is in
    sym (
    in_rest c.args.sets.now side.inputs (side.outputs ++ side.clocks) (rw (← inputs) (sym c.in_default.ensures))
    ∙ in_rest c.args.sets.now side.outputs side.clocks (rw (← outputs) (sym c.in_default-first_elsewhere.ensures))
    ∙ rw (← clocks) (sym c.first_elsewhere-3.ensures)
    )
