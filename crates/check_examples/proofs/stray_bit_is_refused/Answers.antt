use Rattle.std.proofs.Common.{inl, refl, codes}
use Rattle.fabric.specs.Graph.{Graph}
use Rattle.fabric.specs.Image.{image_of}
use Rattle.fabric_laws.specs.PlainGraph.{graph_of}
use Rattle.fabric_laws.proofs.Graphs.{has_graph}
use Rattle.circuit_examples.proofs.Tests.{in_at}
use Rattle.mini.specs.MiniA.{mini_a}
use Rattle.fabric_examples.specs.Faulty.{stray_bit}
use Rattle.design_checks.specs.RoutingChecks.{MuxName, Differs, ArcsDiffer, differ}
use Rattle.answers.specs.Refusals.{ArcDiffers}
use Rattle.check_examples.specs.Refused.{on_toggle}
use Rattle.check_examples.proofs.Whole.{refused_at_arcs}
use Rattle.check_examples.proofs.Devices.{toggle_graph}
use Rattle.check_examples.proofs.Arcs.{lineless, least_differs}
use Rattle.check_examples.proofs.stray_bit_is_refused.Goals as goal

abbrev g : Graph
g = graph_of mini_a

abbrev name : MuxName
name = record { tile = codes "R1C1:MLC"; sink = codes "H5" }

-- the arc of H5 from its left neighbour is chosen and has no line
differs : Differs g (image_of g stray_bit) stray_bit name
differs = record {
  arc = _;
  mux = _;
  tile = _;
  listed = in_at g.arcs 33 _ refl;
  of_mux = refl;
  in_tile = refl;
  named = refl;
  differs = inl (refl, (refl, lineless mini_a g (has_graph mini_a) stray_bit _ refl));
}

arcs_differ : ArcsDiffer g (image_of g stray_bit) stray_bit (ArcDiffers (codes "R1C1:MLC") (codes "H5"))
arcs_differ = differ name (least_differs mini_a g (has_graph mini_a) stray_bit (image_of g stray_bit) name differs refl)

pub returns : goal.returns
returns c = record { refused = arcs_differ; first = refused_at_arcs (on_toggle stray_bit) g (toggle_graph stray_bit) refl (ArcDiffers (codes "R1C1:MLC") (codes "H5")) arcs_differ }
