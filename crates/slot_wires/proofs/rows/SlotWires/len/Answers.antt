use Rattle.std.proofs.Common.{◌∙◌, ap, length, sym}
use Rattle.grouped.proofs.Cut.{length-rows_from}
use Rattle.slot_wires.proofs.rows.SlotWires.len.Goals as goal

pub returns : goal.returns
returns c =
    let inside = c.self.inside in
    ap length c.as_slice.ensures.value ∙ sym (length-rows_from 0 inside.ends.items inside.numbers.items) ∙ ap length c.self.view_is
