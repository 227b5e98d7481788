-- What is proved of the graph that numbers stand for.
use Rattle.std.specs.Prelude.{◌≡◌, ◌==◌, ◌<◌, ◌≤◌, ℕ, List, length, option_map, slice_get, Some}
use Rattle.records.specs.Limits.{most_muxes, most_arcs}
use Rattle.fabric.specs.Wires.{Wire}
use Rattle.fabric.specs.Device.{Device}
use Rattle.fabric.specs.GraphOf.{IsGraph, fixed_of, outputs_of}
use Rattle.mux_rows.specs.MuxTable.{MuxNumbers, MuxTable}
use Rattle.arc_rows.specs.ArcTable.{ArcTable}
use Rattle.link_rows.specs.Kept.{AreBelow, LinkTable, OutputTable}
use Rattle.link_order.specs.Order.{AreWithin}
use Rattle.graph_lists.specs.Places.{places}
use Rattle.graph_lists.specs.ArcLists.{ArcNumbers, arcs_in, arcs_into, arcs_out, muxes_into, numbers_of}
use Rattle.graph_numbers.specs.StandFor.{mux_of, arc_of}
use Rattle.graph_numbers.specs.Graphs.{GraphNumbers, graph_with, AreGraphNumbers}
use Rattle.number_lists.specs.Lists.{KeepsNumbers, muxes_of_tile}
use Rattle.number_lists.specs.Routed.{Routed, IsRouted, routed, graph_of}

-- The graph that the numbers of a device stand for keeps them.
abbrev pub GraphKeepsNumbers : Type 0
GraphKeepsNumbers = (device : Device) (n : GraphNumbers) → AreGraphNumbers device n → KeepsNumbers device n (graph_with device n)

-- The ends of fixed connections, joins and cell outputs are numbers of wires.
abbrev pub LinksAreWithin : Type 0
LinksAreWithin = (device : Device) (wires : List Wire) → AreWithin (length wires) (fixed_of device wires)

abbrev pub OutputsAreBelow : Type 0
OutputsAreBelow = (device : Device) (wires : List Wire) → AreBelow (length wires) (outputs_of device wires)

-- What rows of arcs give, where the graph is kept in them
pub record ArcsAreGiven (r : Routed) (arcs : ArcTable) : Type 0 where
  pub wires : (w : ℕ) → w < length (graph_of r).wires → w < arcs.wires
  pub muxes : (m : ℕ) → m < length (graph_of r).muxes → m < arcs.muxes
  pub numbered : (a : ℕ) → a < length (graph_of r).arcs → a < length arcs.arcs
  pub count : length arcs.arcs ≡ length (graph_of r).arcs
  pub few : length (graph_of r).arcs ≤ most_arcs
  pub out : (w : ℕ) → places (λ a. a.source == w) arcs.arcs ≡ arcs_out (graph_of r) w
  pub into : (w : ℕ) → places (λ a. a.sink == w) arcs.arcs ≡ arcs_into (graph_of r) w
  pub of_mux : (m : ℕ) → places (λ a. a.mux == m) arcs.arcs ≡ arcs_in (graph_of r) m
  pub numbers : (i : ℕ) (a : ArcNumbers) → slice_get arcs.arcs i ≡ Some a → option_map numbers_of (slice_get (graph_of r).arcs i) ≡ Some a
  pub arc : (i : ℕ) (a : ArcNumbers) → slice_get arcs.arcs i ≡ Some a → slice_get (graph_of r).arcs i ≡ arc_of (graph_of r).muxes a

-- What rows of muxes give
pub record MuxesAreGiven (r : Routed) (muxes : MuxTable) : Type 0 where
  pub wires : (w : ℕ) → w < length (graph_of r).wires → w < muxes.wires
  pub tiles : (t : ℕ) → t < length (graph_of r).grid.tiles → t < muxes.tiles
  pub numbered : (m : ℕ) → m < length (graph_of r).muxes → m < length muxes.muxes
  pub count : length muxes.muxes ≡ length (graph_of r).muxes
  pub few : length (graph_of r).muxes ≤ most_muxes
  pub into : (w : ℕ) → places (λ m. m.sink == w) muxes.muxes ≡ muxes_into (graph_of r) w
  pub in_tile : (t : ℕ) → places (λ m. m.tile == t) muxes.muxes ≡ muxes_of_tile (graph_of r) t
  pub mux : (i : ℕ) (m : MuxNumbers) → slice_get muxes.muxes i ≡ Some m → slice_get (graph_of r).muxes i ≡ mux_of r.device m
  pub tile : (i : ℕ) (m : MuxNumbers) → slice_get muxes.muxes i ≡ Some m → option_map (λ x. x.tile) (slice_get (graph_of r).muxes i) ≡ Some m.tile
  pub sink : (i : ℕ) (m : MuxNumbers) → slice_get muxes.muxes i ≡ Some m → option_map (λ x. x.sink) (slice_get (graph_of r).muxes i) ≡ Some m.sink

-- What rows of links and outputs give
pub record EndsAreGiven (r : Routed) (fixed : LinkTable) (outputs : OutputTable) : Type 0 where
  pub link_wires : (w : ℕ) → w < length (graph_of r).wires → w < fixed.wires
  pub output_wires : (w : ℕ) → w < length (graph_of r).wires → w < outputs.wires
  pub all_links : fixed.links ≡ (graph_of r).fixed
  pub all_outputs : outputs.outputs ≡ (graph_of r).outputs

-- What is kept of a graph gives its lists, and the graph is that of the device.
abbrev pub RowsAreGiven : Type 0
RowsAreGiven = (device : Device) (wires : List Wire) (muxes : MuxTable) (arcs : ArcTable) (fixed : LinkTable) (outputs : OutputTable) → IsRouted device wires muxes arcs fixed outputs
    → (r : Routed) → routed device wires muxes arcs fixed outputs ≡ r
    → (IsGraph r.device (graph_of r) × AreGraphNumbers r.device r.numbers) × (MuxesAreGiven r muxes × (ArcsAreGiven r arcs × EndsAreGiven r fixed outputs))
