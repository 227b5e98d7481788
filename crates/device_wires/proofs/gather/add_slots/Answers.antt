use Rattle.std.proofs.Common.{◌≡◌, ◌<◌, ◌+◌, length, get_or, Option, ap, ◌∙◌, subst}
use Rattle.std.specs.Prelude.{option_to_list}
use Rattle.std.proofs.lemmas.Result.{err_from_is_err_and}
use Rattle.records.specs.Limits.{most_wires}
use Rattle.fabric.specs.Wires.{Wire}
use Rattle.fabric.specs.TileWires.{named_wire}
use Rattle.wire_names.specs.LentNames.{wire_name}
use Rattle.wire_names.specs.Slots.{slot_at}
use Rattle.wire_names.specs.declared.slot.Slot.{Slot}
use Rattle.device_wires.specs.Gathered.{gathered}
use Rattle.device_wires.proofs.SoFar.{many_wires, wire_more}
use Rattle.device_wires.proofs.gather.add_slots.Goals as goal

pub returns-in_err-add-clause-many : goal.returns-in_err-add-clause-many
returns-in_err-add-clause-many c =
    let wire : Slot → Option Wire = λ slot. named_wire (slot_at (c.args.row, c.args.col) slot) in
    let slots = c.args.slots.now in
    let i = c.loop-slot.slot-index in
    let this : named_wire (wire_name c.at.result) ≡ wire (get_or slots i c.slot-item.result) = ap named_wire c.at.ensures ∙ ap wire c.slot-item.is in
    let so_far : gathered c.loop-slot.wires (option_to_list (named_wire (wire_name c.at.result))) ≡ _ =
    (λ j. gathered (c.loop-slot.invariant j) (option_to_list (this j))) ∙ wire_more wire c.args.wires.now slots i c.slot-item.result c.loop-slot-test.true in
    let p = err_from_is_err_and c.from_residual.result c.from_residual.ensures.1 in
    rw (p.1, p.2) (λ is. many_wires wire c.args.wires.now slots (i + 1) (subst (λ wires. most_wires < length wires) so_far (c.in_err-add.ensures.many is)))

pub loop-slot-preserved : goal.loop-slot-preserved
loop-slot-preserved c =
    let wire : Slot → Option Wire = λ slot. named_wire (slot_at (c.args.row, c.args.col) slot) in
    let slots = c.args.slots.now in
    let i = c.loop-slot.slot-index in
    let this : named_wire (wire_name c.at.result) ≡ wire (get_or slots i c.slot-item.result) = ap named_wire c.at.ensures ∙ ap wire c.slot-item.is in
    c.in_ok-add.ensures.ok
    ∙ (λ j. gathered (c.loop-slot.invariant j) (option_to_list (this j)))
    ∙ wire_more wire c.args.wires.now slots i c.slot-item.result c.loop-slot-test.true
