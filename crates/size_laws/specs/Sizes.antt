-- What is refused of the graph of a device. (Our own.)
use Rattle.std.specs.Prelude.{◌≡◌, List, flat_map, Some, None}
use Rattle.records.specs.Limits.{Limit, limit_name}
use Rattle.fabric.specs.InOrder.{InOrderOnce}
use Rattle.fabric.specs.Wires.{Wire, wire_cmp}
use Rattle.fabric.specs.Device.{Device}
use Rattle.fabric.specs.TileWires.{tile_wires}
use Rattle.fabric.specs.Graph.{Graph}
use Rattle.fabric.specs.GraphOf.{IsGraph}
use Rattle.answers.specs.Refusals.{TooLarge, OverlapShape}
use Rattle.design_checks.specs.Checks.{Passes}
use Rattle.design_checks.specs.GraphChecks.{Overlap, graph_name, graph_size_refusal}

-- the wires of a device, in wire order, each once
abbrev pub AreWiresOf : Device → List Wire → Type 0
AreWiresOf device wires = InOrderOnce wire_cmp (flat_map (tile_wires device) device.grid.tiles) wires

-- the graph of a device is too large in this quantity, and in none that is looked at before
abbrev pub IsTooLarge : Device → Limit → Type 0
IsTooLarge device limit = (g : Graph) → IsGraph device g → graph_size_refusal g ≡ Some (TooLarge graph_name (limit_name limit))

-- the graph of a device isn't too large
abbrev pub IsSmall : Device → Type 0
IsSmall device = (g : Graph) → IsGraph device g → graph_size_refusal g ≡ None

-- a wire is the least that is an output twice in the graph of a device
abbrev pub OverlapsAt : Device → Wire → Type 0
OverlapsAt device wire = (g : Graph) → IsGraph device g → Overlap device g (OverlapShape wire)

-- no wire is an output twice in the graph of a device
abbrev pub OverlapsNowhere : Device → Type 0
OverlapsNowhere device = (g : Graph) → IsGraph device g → Passes (Overlap device g)
