-- What lent names of wires, parts and pins stand for.
use Rattle.fabric.specs.Wires as wires
use Rattle.circuit.specs.Parts.{PartRef}
use Rattle.circuit.specs.Pins.{PinRef}
use Rattle.cell_parts.specs.PartViews.{part_of}
use Rattle.report_text.specs.declared.named.Wire.{Wire}
use Rattle.report_text.specs.declared.named.Wire.TheVariants.{Local, Wide}
use Rattle.report_text.specs.declared.named.PartName.{PartName}
use Rattle.report_text.specs.declared.named.PinName.{PinName}

abbrev pub wire_view : Wire → wires.Wire
wire_view (Local row col base) = wires.Local row col base.now
wire_view (Wide base) = wires.Wide base.now

abbrev pub part_view : PartName → PartRef
part_view p = record { cell = p.cell.now; part = part_of p.part }

abbrev pub pin_view : PinName → PinRef
pin_view p = record { part = part_view p.part; pin = p.pin }
