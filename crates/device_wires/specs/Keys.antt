-- The wire that a key stands for.
use Rattle.fabric.specs.Wires as wires
use Rattle.device_wires.specs.declared.keys.WireKey.{WireKey}
use Rattle.device_wires.specs.declared.keys.WireKey.TheVariants.{Local, Wide}

abbrev pub wire_of : WireKey → wires.Wire
wire_of (Local row col base) = wires.Local row col base.now
wire_of (Wide base) = wires.Wide base.now
