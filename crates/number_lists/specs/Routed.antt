-- The routing graph of a device, as a program keeps it: by numbers, beside the device. (Our own.)
use Rattle.std.specs.Prelude.{◌≡◌, ◌≤◌, List, length}
use Rattle.records.specs.Limits.{most_muxes, most_arcs}
use Rattle.fabric.specs.Wires.{Wire}
use Rattle.fabric.specs.Device.{Device}
use Rattle.fabric.specs.Graph.{Graph}
use Rattle.mux_rows.specs.MuxTable.{MuxTable}
use Rattle.arc_rows.specs.ArcTable.{ArcTable}
use Rattle.link_rows.specs.Kept.{LinkTable, OutputTable}
use Rattle.graph_numbers.specs.Graphs.{GraphNumbers, graph_with, AreGraphNumbers}

-- a device, and the numbers that stand for its graph
pub record Routed : Type 0 where
  pub device : Device
  pub numbers : GraphNumbers

-- the graph that they stand for
abbrev pub graph_of : Routed → Graph
graph_of r = graph_with r.device r.numbers

-- the numbers of what is kept in rows
abbrev pub numbers_in : List Wire → MuxTable → ArcTable → LinkTable → OutputTable → GraphNumbers
numbers_in wires muxes arcs fixed outputs = record { wires = wires; muxes = muxes.muxes; arcs = arcs.arcs; fixed = fixed.links; outputs = outputs.outputs }

abbrev pub routed : Device → List Wire → MuxTable → ArcTable → LinkTable → OutputTable → Routed
routed device wires muxes arcs fixed outputs = record { device = device; numbers = numbers_in wires muxes arcs fixed outputs }

-- What is kept is what the device has, within the limits, in rows for all tiles, wires and muxes.
pub record IsRouted (device : Device) (wires : List Wire) (muxes : MuxTable) (arcs : ArcTable) (fixed : LinkTable) (outputs : OutputTable) : Type 0 where
  pub numbers : AreGraphNumbers device (numbers_in wires muxes arcs fixed outputs)
  pub mux_tiles : muxes.tiles ≡ length device.grid.tiles
  pub mux_wires : muxes.wires ≡ length wires
  pub arc_wires : arcs.wires ≡ length wires
  pub arc_muxes : arcs.muxes ≡ length muxes.muxes
  pub link_wires : fixed.wires ≡ length wires
  pub output_wires : outputs.wires ≡ length wires
  pub few_muxes : length muxes.muxes ≤ most_muxes
  pub few_arcs : length arcs.arcs ≤ most_arcs
