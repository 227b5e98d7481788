-- The routing graph of a device, as lists: its wires, muxes, arcs and fixed connections by numbers. Everything
-- above speaks of these numbers; `IsGraph` ties them to names. (After Project Trellis; the orders are our own.)
use Rattle.std.specs.Prelude.{ℕ, List}
use Rattle.patterns.specs.Bits.{DeviceBit}
use Rattle.records.specs.Database.{Arc, Mux}
use Rattle.records.specs.Grid.{Grid}
use Rattle.links.specs.Links.{Link}
use Rattle.fabric.specs.Wires.{Wire}
use Rattle.fabric.specs.Settings.{Settings}

-- A mux of a tile: the tile by its number in the grid, the device bit of the tile's bit F0B0, the number of the
-- wire that the mux drives, and the mux as the database has it.
pub record GraphMux : Type 0 where
  pub tile : ℕ
  pub origin : DeviceBit
  pub sink : ℕ
  pub mux : Mux

-- An arc of a mux: the mux by its number, its place among the arcs of the mux in the database, its two wires by
-- their numbers, the device bit of the tile's bit F0B0, and the arc as the database has it.
pub record GraphArc : Type 0 where
  pub mux : ℕ
  pub place : ℕ
  pub source : ℕ
  pub sink : ℕ
  pub origin : DeviceBit
  pub arc : Arc

-- The graph. A wire, a mux or an arc is known by its place in its list. `fixed` holds fixed connections and
-- joins, `outputs` the cell outputs: the `out` wires of tables and registers and the `in` wires of pads, at all
-- sites, named or not. `settings` are those of each tile.
pub record Graph : Type 0 where
  pub grid : Grid
  pub wires : List Wire
  pub muxes : List GraphMux
  pub arcs : List GraphArc
  pub fixed : List Link
  pub outputs : List ℕ
  pub settings : List Settings
