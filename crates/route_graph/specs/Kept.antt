-- What a program keeps of the routing graph of a device. (Our own.)
use Rattle.std.specs.Prelude.{◌≡◌, ◌≤◌, List, flat_map, length}
use Rattle.std.specs.Ordering.{nat_cmp}
use Rattle.records.specs.Limits.{most_arcs, most_muxes}
use Rattle.patterns.specs.Bits.{DeviceBit}
use Rattle.fabric.specs.InOrder.{InOrderOnce}
use Rattle.fabric.specs.Wires.{Wire, wire_cmp}
use Rattle.fabric.specs.Device.{Device}
use Rattle.fabric.specs.TileWires.{tile_wires}
use Rattle.fabric.specs.GraphOf.{fixed_of, link_cmp, muxes_of, outputs_of}
use Rattle.graph_lists.specs.ArcLists.{numbers_cmp}
use Rattle.mux_rows.specs.MuxTable.{MuxTable}
use Rattle.arc_rows.specs.ArcTable.{ArcTable}
use Rattle.link_rows.specs.Kept.{LinkTable, OutputTable}
use Rattle.row_laws.specs.BitRows.{AreBitRows}
use Rattle.device_numbers.specs.Numbered.{Numbered}
use Rattle.number_lists.specs.Routed.{IsRouted, graph_of, routed}
use Rattle.graph_numbers.specs.Numbers.{mux_numbers}
use Rattle.graph_numbers.specs.StandFor.{arc_numbers}

-- The muxes and arcs in rows are those of a device, within the limits, in rows for all tiles, wires and muxes.
pub record AreGraphRows (device : Device) (wires : List Wire) (muxes : MuxTable) (arcs : ArcTable) : Type 0 where
  pub wires_are : InOrderOnce wire_cmp (flat_map (tile_wires device) device.grid.tiles) wires
  pub muxes_are : muxes ≡ record { tiles = length device.grid.tiles; wires = length wires; muxes = mux_numbers device wires }
  pub arcs_are : InOrderOnce numbers_cmp (arc_numbers device wires (muxes_of device wires)) arcs.arcs
  pub of_wires : arcs.wires ≡ length wires
  pub of_muxes : arcs.muxes ≡ length muxes.muxes
  pub few_muxes : length muxes.muxes ≤ most_muxes
  pub few_arcs : length arcs.arcs ≤ most_arcs

-- So are the fixed connections and joins, and the cell outputs.
pub record AreGraphEnds (device : Device) (wires : List Wire) (fixed : LinkTable) (outputs : OutputTable) : Type 0 where
  pub links_are : InOrderOnce link_cmp (fixed_of device wires) fixed.links
  pub link_wires : fixed.wires ≡ length wires
  pub outputs_are : InOrderOnce nat_cmp (outputs_of device wires) outputs.outputs
  pub output_wires : outputs.wires ≡ length wires

-- What is kept in rows is what the device has, and the bits are those of the graph's muxes.
pub record IsKept (n : Numbered) (muxes : MuxTable) (arcs : ArcTable) (fixed : LinkTable) (outputs : OutputTable) (bits : List (List DeviceBit)) : Type 0 where
  pub rows : IsRouted n.device n.wires muxes arcs fixed outputs
  pub bits_are : AreBitRows (graph_of (routed n.device n.wires muxes arcs fixed outputs)) bits
