use Rattle.std.proofs.Common.{option_map}
use Rattle.std.proofs.lemmas.List.{drop_all}
use Rattle.design_checks.specs.LineChecks.{arc_faults}
use Rattle.text_image.specs.Faults.{fault_view}
use Rattle.text_image.proofs.First.{at_end}
use Rattle.text_image.proofs.lines.arcs_fault.Goals as goal

pub returns : goal.returns
returns g c = at_end (arc_faults (g.G.NamedGraph.graph c.args.graph.now) c.args.t c.args.tile.now) (option_map fault_view c.loop-arc.found) c.args.arcs.now c.loop-arc.arc-index (drop_all c.loop-arc.arc-index c.args.arcs.now c.loop-arc-test.false) c.loop-arc.invariant
