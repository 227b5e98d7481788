use Rattle.std.proofs.Common.{refl}
use Rattle.fabric.specs.Graph.{Graph}
use Rattle.fabric.specs.Image.{image_of}
use Rattle.fabric.specs.Agree.{ArcsAgree}
use Rattle.fabric_laws.specs.PlainGraph.{graph_of}
use Rattle.fabric_laws.proofs.Graphs.{has_graph}
use Rattle.fabric_laws.proofs.Agreeing.{agreeing}
use Rattle.mini.specs.MiniA.{mini_a}
use Rattle.design_checks.specs.RoutingChecks.{AreContested}
use Rattle.check_examples.specs.Refused.{on_toggle, second_arc}
use Rattle.check_examples.proofs.Whole.{refused_at_drivers}
use Rattle.check_examples.proofs.Devices.{toggle_graph}
use Rattle.check_examples.proofs.SecondArc.{two_on_a, a_contested}
use Rattle.check_examples.proofs.second_arc_is_refused.Goals as goal

abbrev g : Graph
g = graph_of mini_a

agree : ArcsAgree g (image_of g second_arc) second_arc
agree = (agreeing mini_a g (has_graph mini_a) (image_of g second_arc) second_arc).0 refl

wires_contested : AreContested g (image_of g second_arc) two_on_a
wires_contested = a_contested second_arc (record { from_first = refl; from_second = refl; first_fed = refl; second_fed = refl; no_output = refl; least_wire = refl; least_track = refl; next_track = refl })

pub returns : goal.returns
returns c = record { refused = wires_contested; first = refused_at_drivers (on_toggle second_arc) g (toggle_graph second_arc) refl agree two_on_a wires_contested }
