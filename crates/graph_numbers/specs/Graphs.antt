-- A graph by numbers: what a program keeps of the graph of a device beside the device. (Our own.)
use Rattle.std.specs.Prelude.{◌≡◌, ℕ, List, map, filter_map, flat_map}
use Rattle.std.specs.Ordering.{nat_cmp}
use Rattle.links.specs.Links.{Link}
use Rattle.fabric.specs.InOrder.{InOrderOnce}
use Rattle.fabric.specs.Wires.{Wire, wire_cmp}
use Rattle.fabric.specs.Device.{Device}
use Rattle.fabric.specs.TileWires.{tile_wires}
use Rattle.fabric.specs.Graph.{GraphMux, Graph}
use Rattle.fabric.specs.GraphOf.{muxes_of, fixed_of, outputs_of, settings_in, link_cmp}
use Rattle.graph_lists.specs.ArcLists.{ArcNumbers, numbers_cmp}
use Rattle.mux_rows.specs.MuxTable.{MuxNumbers}
use Rattle.graph_numbers.specs.Numbers.{mux_numbers}
use Rattle.graph_numbers.specs.StandFor.{mux_of, arc_of, arc_numbers}

-- the wires in wire order, muxes and arcs by numbers, fixed connections and joins, and cell outputs
pub record GraphNumbers : Type 0 where
  pub wires : List Wire
  pub muxes : List MuxNumbers
  pub arcs : List ArcNumbers
  pub fixed : List Link
  pub outputs : List ℕ

abbrev pub muxes_with : Device → GraphNumbers → List GraphMux
muxes_with device n = filter_map (mux_of device) n.muxes

-- the graph that they stand for over a device
abbrev pub graph_with : Device → GraphNumbers → Graph
graph_with device n = record {
  grid = device.grid;
  wires = n.wires;
  muxes = muxes_with device n;
  arcs = filter_map (arc_of (muxes_with device n)) n.arcs;
  fixed = n.fixed;
  outputs = n.outputs;
  settings = map (settings_in device) device.grid.tiles;
}

-- They are those of a device: its wires in wire order; its muxes by tile, then in file order; its arcs in arc order, its
-- fixed connections, joins and cell outputs in order; each once.
pub record AreGraphNumbers (device : Device) (n : GraphNumbers) : Type 0 where
  pub wires : InOrderOnce wire_cmp (flat_map (tile_wires device) device.grid.tiles) n.wires
  pub muxes : n.muxes ≡ mux_numbers device n.wires
  pub arcs : InOrderOnce numbers_cmp (arc_numbers device n.wires (muxes_of device n.wires)) n.arcs
  pub fixed : InOrderOnce link_cmp (fixed_of device n.wires) n.fixed
  pub outputs : InOrderOnce nat_cmp (outputs_of device n.wires) n.outputs
