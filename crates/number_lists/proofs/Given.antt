-- What is kept of a graph in rows gives its lists.
use Rattle.std.proofs.Common.{◌≡◌, ℕ, ◌<◌, ◌≤◌, List, length, refl, sym, subst, ◌∙◌}
use Rattle.records.specs.Limits.{most_muxes, most_arcs}
use Rattle.fabric.specs.Wires.{Wire}
use Rattle.fabric.specs.Device.{Device}
use Rattle.fabric.specs.Graph.{Graph}
use Rattle.fabric.specs.GraphOf.{IsGraph}
use Rattle.mux_rows.specs.MuxTable.{MuxTable}
use Rattle.arc_rows.specs.ArcTable.{ArcTable}
use Rattle.link_rows.specs.Kept.{LinkTable, OutputTable}
use Rattle.graph_numbers.specs.Graphs.{GraphNumbers, AreGraphNumbers}
use Rattle.graph_numbers.proofs.Whole.{whole}
use Rattle.number_lists.specs.Lists.{KeepsNumbers}
use Rattle.number_lists.specs.Routed.{Routed, IsRouted, routed, graph_of, numbers_in}
use Rattle.number_lists.specs.Statements.{ArcsAreGiven, MuxesAreGiven, EndsAreGiven}
use Rattle.number_lists.proofs.Views.{kept, arcs_counted, muxes_counted, out_are, into_are, of_mux_are, drivers_are, in_tile_are, arc_is, numbers_at, mux_at_is, tile_at, sink_at}

abbrev pub Given : MuxTable → ArcTable → LinkTable → OutputTable → Routed → Type 0
Given muxes arcs fixed outputs r = (IsGraph r.device (graph_of r) × AreGraphNumbers r.device r.numbers) × (MuxesAreGiven r muxes × (ArcsAreGiven r arcs × EndsAreGiven r fixed outputs))

module _ (device : Device) (wires : List Wire) (muxes : MuxTable) (arcs : ArcTable) (fixed : LinkTable) (outputs : OutputTable) (is : IsRouted device wires muxes arcs fixed outputs) where
  abbrev n : GraphNumbers
  n = numbers_in wires muxes arcs fixed outputs

  abbrev r : Routed
  r = routed device wires muxes arcs fixed outputs

  abbrev g : Graph
  g = graph_of r

  k : KeepsNumbers device n g
  k = kept device n is.numbers

  same_below : (a b : ℕ) → b ≡ a → (w : ℕ) → w < a → w < b
  same_below a b e w l = subst (λ x. w < x) (sym e) l

  mux_count : length muxes.muxes ≡ length g.muxes
  mux_count = sym (muxes_counted device n g k)

  arc_count : length arcs.arcs ≡ length g.arcs
  arc_count = sym (arcs_counted device n g k)

  muxes_given : MuxesAreGiven r muxes
  muxes_given = record {
    wires = same_below (length wires) muxes.wires is.mux_wires;
    tiles = same_below (length device.grid.tiles) muxes.tiles is.mux_tiles;
    numbered = same_below (length g.muxes) (length muxes.muxes) mux_count;
    count = mux_count;
    few = subst (λ x. x ≤ most_muxes) mux_count is.few_muxes;
    into = drivers_are device n g k;
    in_tile = in_tile_are device n g k;
    mux = mux_at_is device n g k;
    tile = tile_at device n g k;
    sink = sink_at device n g k;
  }

  arcs_given : ArcsAreGiven r arcs
  arcs_given = record {
    wires = same_below (length wires) arcs.wires is.arc_wires;
    muxes = same_below (length g.muxes) arcs.muxes (is.arc_muxes ∙ mux_count);
    numbered = same_below (length g.arcs) (length arcs.arcs) arc_count;
    count = arc_count;
    few = subst (λ x. x ≤ most_arcs) arc_count is.few_arcs;
    out = out_are device n g k;
    into = into_are device n g k;
    of_mux = of_mux_are device n g k;
    numbers = numbers_at device n g k;
    arc = arc_is device n g k;
  }

  ends_given : EndsAreGiven r fixed outputs
  ends_given = record {
    link_wires = same_below (length wires) fixed.wires is.link_wires;
    output_wires = same_below (length wires) outputs.wires is.output_wires;
    all_links = refl;
    all_outputs = refl;
  }

  pub given : (s : Routed) → r ≡ s → Given muxes arcs fixed outputs s
  given s e = subst (Given muxes arcs fixed outputs) e ((whole device n is.numbers, is.numbers), (muxes_given, (arcs_given, ends_given)))
