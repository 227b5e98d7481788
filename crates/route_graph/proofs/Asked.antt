-- What is kept gives the lists of the graph.
use Rattle.std.proofs.Common.{◌≡◌, ◌<◌, List, length, refl, sym, ap, subst}
use Rattle.std.proofs.lemmas.Option.{slice_get_within}
use Rattle.words.specs.Members.{In}
use Rattle.fabric.specs.Wires.{Wire}
use Rattle.fabric.specs.Device.{Device}
use Rattle.fabric.specs.Graph.{Graph, GraphArc}
use Rattle.fabric.specs.GraphOf.{IsGraph}
use Rattle.fabric_laws.proofs.Standing.{arc_stands}
use Rattle.mux_rows.specs.MuxTable.{MuxNumbers}
use Rattle.graph_lists.specs.ArcLists.{ArcNumbers}
use Rattle.graph_numbers.specs.Graphs.{AreGraphNumbers}
use Rattle.graph_numbers.proofs.Whole.{whole}
use Rattle.number_lists.specs.Routed.{Routed, IsRouted, graph_of, numbers_in, routed}
use Rattle.number_lists.specs.Statements.{ArcsAreGiven, MuxesAreGiven, EndsAreGiven}
use Rattle.number_lists.proofs.Given.{Given, given}
use Rattle.number_lists.proofs.Views.{kept}
use Rattle.record_laws.specs.Records.{AreArcsOf, AreMuxesOf}
use Rattle.row_laws.specs.BitRows.{AreBitRows}
use Rattle.route_graph.specs.Kept.{IsKept}
use Rattle.route_graph.specs.declared.graph.RouteGraph.TheInside.{Inside}

-- the muxes and arcs in rows are those of the graph
rows_known : (device : Device) (wires : List Wire) (k : Inside) → IsRouted device wires k.rows.muxes k.rows.arcs k.fixed k.outputs
    → AreArcsOf device (graph_of (routed device wires k.rows.muxes k.rows.arcs k.fixed k.outputs)) k.rows.muxes.muxes k.rows.arcs.arcs
rows_known device wires k is = record {
  of_muxes = record { is = whole device (numbers_in wires k.rows.muxes k.rows.arcs k.fixed k.outputs) is.numbers; muxes_are = is.numbers.muxes };
  arcs_are = (kept device (numbers_in wires k.rows.muxes k.rows.arcs k.fixed k.outputs) is.numbers).numbers;
}

pub arcs_below : (device : Device) (g : Graph) → IsGraph device g → (a : GraphArc) → In g.arcs a → a.mux < length g.muxes
arcs_below device g is a i = (let stands = arc_stands device g is a i in slice_get_within g.muxes a.mux stands.mux stands.of_mux)

module _ (k : Inside) (is : IsKept k.device k.rows.muxes k.rows.arcs k.fixed k.outputs k.bits)
    (r : Routed) (view : routed k.device.device k.device.wires k.rows.muxes k.rows.arcs k.fixed k.outputs ≡ r) where
  all_given : Given k.rows.muxes k.rows.arcs k.fixed k.outputs r
  all_given = given k.device.device k.device.wires k.rows.muxes k.rows.arcs k.fixed k.outputs is.rows r view

  pub of_device : IsGraph r.device (graph_of r)
  of_device = all_given.0.0

  pub of_numbers : AreGraphNumbers r.device r.numbers
  of_numbers = all_given.0.1

  pub of_muxes : MuxesAreGiven r k.rows.muxes
  of_muxes = all_given.1.0

  pub of_arcs : ArcsAreGiven r k.rows.arcs
  of_arcs = all_given.1.1.0

  pub of_ends : EndsAreGiven r k.fixed k.outputs
  of_ends = all_given.1.1.1

  pub of_bits : AreBitRows (graph_of r) k.bits
  of_bits = subst (λ (x : Routed). AreBitRows (graph_of x) k.bits) view is.bits_are

  pub mux_known : (a : GraphArc) → In (graph_of r).arcs a → a.mux < length (graph_of r).muxes
  mux_known = arcs_below r.device (graph_of r) of_device

  -- the device that is kept is that of the graph
  pub device_is : k.device.device ≡ r.device
  device_is = ap (λ (x : Routed). x.device) view

  pub wires_are : k.device.wires ≡ r.numbers.wires
  wires_are = ap (λ (x : Routed). x.numbers.wires) view

  -- muxes and arcs that are lent are those of the graph
  pub known : (muxes : List MuxNumbers) (arcs : List ArcNumbers) → muxes ≡ k.rows.muxes.muxes → arcs ≡ k.rows.arcs.arcs → AreArcsOf k.device.device (graph_of r) muxes arcs
  known muxes arcs of_rows in_rows =
      let here = subst (λ (x : Routed). AreArcsOf k.device.device (graph_of x) k.rows.muxes.muxes k.rows.arcs.arcs) view (rows_known k.device.device k.device.wires k is.rows) in
      let with_muxes = subst (λ (ms : List MuxNumbers). AreArcsOf k.device.device (graph_of r) ms k.rows.arcs.arcs) (sym of_rows) here in
      subst (λ (xs : List ArcNumbers). AreArcsOf k.device.device (graph_of r) muxes xs) (sym in_rows) with_muxes

  pub muxes_known : (muxes : List MuxNumbers) → muxes ≡ k.rows.muxes.muxes → AreMuxesOf k.device.device (graph_of r) muxes
  muxes_known muxes of_rows = (known muxes k.rows.arcs.arcs of_rows refl).of_muxes
