use Rattle.std.proofs.Common.{ap, ◌∙◌}
use Rattle.fabric.specs.WireOfName.{wire_of_name}
use Rattle.tile_types.proofs.slots.slot_of.Goals as goal

pub returns-clause-stands : goal.returns-clause-stands
returns-clause-stands c = λ row column. c.slot.ensures.stands row column ∙ ap (λ name. wire_of_name (row, column) name c.args.rules.now) c.bytes.ensures.same
