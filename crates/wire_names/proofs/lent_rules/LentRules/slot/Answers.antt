use Rattle.std.proofs.Common.{◌≡◌, ◌∙◌, ap, sym, false}
use Rattle.fabric.specs.WireOfName.{begins_with_one}
use Rattle.wire_names.specs.Slots.{slot_at}
use Rattle.wire_names.proofs.SlotPlaces.{slot_stands}
use Rattle.wire_names.proofs.lent_rules.LentRules.slot.Goals as goal

pub returns-clause-stands : goal.returns-clause-stands
returns-clause-stands c = λ row column.
    let relative = c.read-relative.result in
    let own : begins_with_one c.args.self.now.other_chips c.args.name.now ≡ false =
    rw (← c.self.view_is) (sym c.has_front_of.ensures ∙ c.if-has_front_of.false) in
    ap (slot_at (row, column)) c.of.ensures
    ∙ slot_stands (row, column) c.args.name.now c.args.self.now c.has_front_of-is_wide.result relative own
    (rw (← c.self.view_is, ← c.without_chip.ensures.rest) c.read-relative.ensures.parts)
    (rw (← c.self.view_is) c.has_front_of-is_wide.ensures)
