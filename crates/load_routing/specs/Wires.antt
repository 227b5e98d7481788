-- Wires by their names. (Our own.)
use Rattle.std.specs.Prelude.{Option, Some, None}
use Rattle.fabric.specs.Wires.{Wire}
use Rattle.fabric.specs.WireNames.{WireName, Named, Ignored}

-- the wire that a name names, where it isn't ignored
abbrev pub named_wire : WireName → Option Wire
named_wire (Named wire) = Some wire
named_wire Ignored = None
