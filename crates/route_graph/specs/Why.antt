-- Why a device has no routing graph. (Our own.)
use Rattle.records.specs.Limits as limits
use Rattle.fabric.specs.Device.{Device}
use Rattle.size_laws.specs.Sizes.{IsSmall, IsTooLarge, OverlapsAt}
use Rattle.route_graph.specs.Owned.{wire_of}
use Rattle.route_graph.specs.declared.errors.GraphError.{GraphError}
use Rattle.route_graph.specs.declared.errors.GraphError.TheVariants.{Wires, Muxes, Arcs, Overlap, Memory}

-- what an error says of a device: its graph is too large in this quantity and in none before; or it is not, and this is the
-- least wire that is the output of two cells; want of memory says nothing
abbrev pub IsWhy : Device → GraphError → Type 0
IsWhy device Wires = IsTooLarge device limits.Wires
IsWhy device Muxes = IsTooLarge device limits.Muxes
IsWhy device Arcs = IsTooLarge device limits.Arcs
IsWhy device (Overlap wire) = IsSmall device × OverlapsAt device (wire_of wire)
IsWhy device Memory = Unit {0}
