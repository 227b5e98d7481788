-- The graph of a device, computed as plainly as can be. It is a yardstick and serves examples.
use Rattle.std.specs.Prelude.{map, flat_map}
use Rattle.std.specs.Ordering.{nat_cmp}
use Rattle.fabric.specs.Wires.{wire_cmp}
use Rattle.fabric.specs.Device.{Device}
use Rattle.fabric.specs.TileWires.{tile_wires}
use Rattle.fabric.specs.Graph.{Graph}
use Rattle.fabric.specs.GraphOf.{muxes_of, arc_cmp, arcs_of, link_cmp, fixed_of, outputs_of, settings_in}
use Rattle.fabric_laws.specs.Insertion.{sorted_once}

abbrev pub graph_of : Device → Graph
graph_of device =
    let wires = sorted_once wire_cmp (flat_map (tile_wires device) device.grid.tiles) in
    record {
      grid = device.grid;
      wires = wires;
      muxes = muxes_of device wires;
      arcs = sorted_once arc_cmp (arcs_of device wires);
      fixed = sorted_once link_cmp (fixed_of device wires);
      outputs = sorted_once nat_cmp (outputs_of device wires);
      settings = map (settings_in device) device.grid.tiles;
    }
