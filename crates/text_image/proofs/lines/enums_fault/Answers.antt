use Rattle.std.proofs.Common.{option_map}
use Rattle.std.proofs.lemmas.List.{drop_all}
use Rattle.design_checks.specs.LineChecks.{enum_faults}
use Rattle.named_graph.specs.Standing.{settings_at}
use Rattle.text_image.specs.Faults.{fault_view}
use Rattle.text_image.proofs.First.{at_end}
use Rattle.text_image.proofs.lines.enums_fault.Goals as goal

pub returns : goal.returns
returns g c = at_end (enum_faults (settings_at (g.G.NamedGraph.graph c.args.graph.now) c.args.t)) (option_map fault_view c.loop-line.found) c.args.enums.now c.loop-line.line-index (drop_all c.loop-line.line-index c.args.enums.now c.loop-line-test.false) c.loop-line.invariant
