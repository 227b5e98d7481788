-- The wire that a name on its own stands for. (Our own.)
use Rattle.fabric.specs.Wires as wires
use Rattle.route_graph.specs.declared.errors.OwnedWire.{OwnedWire}
use Rattle.route_graph.specs.declared.errors.OwnedWire.TheVariants.{Local, Wide}

abbrev pub wire_of : OwnedWire → wires.Wire
wire_of (Local row col base) = wires.Local row col base.items
wire_of (Wide base) = wires.Wide base.items
