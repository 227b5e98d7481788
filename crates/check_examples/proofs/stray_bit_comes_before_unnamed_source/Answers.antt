use Rattle.std.proofs.Common.{pos, inl, inr, refl, codes}
use Rattle.fabric.specs.Graph.{Graph}
use Rattle.fabric.specs.Image.{image_of}
use Rattle.fabric.specs.Wires.{Wire, Local}
use Rattle.fabric_laws.specs.PlainGraph.{graph_of}
use Rattle.fabric_laws.proofs.Graphs.{has_graph}
use Rattle.circuit.specs.Parts.{Table}
use Rattle.circuit.specs.Pins.{Pin, pin_at}
use Rattle.circuit_examples.proofs.Tests.{in_at}
use Rattle.mini.specs.ToggleCells.{wire_at}
use Rattle.mini_b.specs.MiniB.{mini_b}
use Rattle.answers.specs.Refusals.{ArcDiffers, UnnamedSource}
use Rattle.design_checks.specs.RoutingChecks.{MuxName, Differs, ArcsDiffer, differ}
use Rattle.design_checks.specs.PinChecks.{SourceUnnamed}
use Rattle.check_examples.specs.CorridorRefused.{on_corridor, side_without_u, stray_track, stray_unnamed_circuit}
use Rattle.check_examples.proofs.Arcs.{lineless, least_differs}
use Rattle.check_examples.proofs.Loops.{unnamed_at}
use Rattle.check_examples.proofs.Whole.{refused_at_arcs}
use Rattle.check_examples.proofs.Devices.{corridor_graph}
use Rattle.check_examples.proofs.ReadCorridors.{stray_read}
use Rattle.check_examples.proofs.stray_bit_comes_before_unnamed_source.Goals as goal

abbrev g : Graph
g = graph_of mini_b

abbrev name : MuxName
name = record { tile = codes "R1C1:SLC"; sink = codes "U" }

-- the arc of U from its left neighbour is chosen and has no line
differs : Differs g (image_of g stray_track) stray_track name
differs = record {
  arc = _;
  mux = _;
  tile = _;
  listed = in_at g.arcs 31 _ refl;
  of_mux = refl;
  in_tile = refl;
  named = refl;
  differs = inl (refl, (refl, lineless mini_b g (has_graph mini_b) stray_track _ refl));
}

arcs_differ : ArcsDiffer g (image_of g stray_track) stray_track (ArcDiffers (codes "R1C1:SLC") (codes "U"))
arcs_differ = differ name (least_differs mini_b g (has_graph mini_b) stray_track (image_of g stray_track) name differs refl)

abbrev pin : Pin
pin = pin_at (record { cell = codes "w0"; part = Table 0 }) 0 (wire_at g 1 3 (codes "D"))

abbrev output : Wire
output = Local (pos 1) (pos 1) (codes "F")

source_unnamed : SourceUnnamed g (stray_unnamed_circuit g) (UnnamedSource pin.ref output)
source_unnamed = unnamed_at (stray_unnamed_circuit g) g pin (wire_at g 1 1 (codes "F")) output (inr (inr (inr (inl refl)))) refl refl refl refl

pub returns : goal.returns
returns c = record {
  earlier = refused_at_arcs (on_corridor stray_track side_without_u) g (corridor_graph stray_track side_without_u) refl (ArcDiffers (codes "R1C1:SLC") (codes "U")) arcs_differ;
  cells = stray_read;
  later = source_unnamed;
}
