-- What a lent name of a wire stands for.
use Rattle.fabric.specs.Wires as wires
use Rattle.fabric.specs.WireNames as names
use Rattle.wire_names.specs.declared.wire.WireName.{WireName}
use Rattle.wire_names.specs.declared.wire.WireName.TheVariants.{Local, Wide, Ignored}

-- the wire that a lent name names, or that it is ignored
abbrev pub wire_name : WireName → names.WireName
wire_name (Local row col base) = names.Named (wires.Local row col base.now)
wire_name (Wide base) = names.Named (wires.Wide base.now)
wire_name Ignored = names.Ignored
