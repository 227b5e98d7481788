use Rattle.std.proofs.Common.{option_map}
use Rattle.std.proofs.lemmas.List.{drop_all}
use Rattle.design_checks.specs.LineChecks.{section_faults}
use Rattle.text_image.specs.Faults.{fault_view}
use Rattle.text_image.proofs.First.{at_end}
use Rattle.text_image.proofs.lines.sections_fault.Goals as goal

pub returns : goal.returns
returns g c = at_end (section_faults (g.G.NamedGraph.graph c.args.graph.now)) (option_map fault_view c.loop-text.found) c.args.sections.now c.loop-text.text-index (drop_all c.loop-text.text-index c.args.sections.now c.loop-text-test.false) c.loop-text.invariant
