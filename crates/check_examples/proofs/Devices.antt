-- The graphs of the small devices are within their limits, and none of their outputs stands twice.
use Rattle.std.proofs.Common.{refl}
use Rattle.records.specs.Side.{Side}
use Rattle.records.specs.Config.{Config}
use Rattle.fabric.specs.GraphOf.{outputs_of}
use Rattle.fabric_laws.specs.PlainGraph.{graph_of}
use Rattle.mini.specs.MiniA.{mini_a}
use Rattle.mini_b.specs.MiniB.{mini_b}
use Rattle.formed_laws.specs.Designs.{NoOverlap}
use Rattle.formed_examples.proofs.Read.{none_twice, toggle_read}
use Rattle.design_checks.specs.Checks.{Passes}
use Rattle.design_checks.specs.DesignChecks.{GraphRefused}
use Rattle.check_examples.specs.Refused.{on_toggle}
use Rattle.check_examples.specs.CorridorRefused.{on_corridor}
use Rattle.check_examples.proofs.Whole.{graph_passes}

pub toggle_graph : (config : Config) → Passes (GraphRefused (on_toggle config) (graph_of mini_a))
toggle_graph config = graph_passes (on_toggle config) (graph_of mini_a) refl toggle_read.outputs

corridor_outputs : NoOverlap mini_b (graph_of mini_b)
corridor_outputs = none_twice (outputs_of mini_b (graph_of mini_b).wires) refl

pub corridor_graph : (config : Config) (side : Side) → Passes (GraphRefused (on_corridor config side) (graph_of mini_b))
corridor_graph config side = graph_passes (on_corridor config side) (graph_of mini_b) refl corridor_outputs
