use Rattle.std.proofs.Common.{option_map}
use Rattle.std.proofs.lemmas.List.{drop_all}
use Rattle.design_checks.specs.LineChecks.{unknown_faults}
use Rattle.text_image.specs.Faults.{fault_view}
use Rattle.text_image.proofs.First.{at_end}
use Rattle.text_image.proofs.lines.unknowns_fault.Goals as goal

pub returns : goal.returns
returns c = at_end (unknown_faults c.args.tile.now) (option_map fault_view c.loop-line.found) c.args.unknowns.now c.loop-line.line-index (drop_all c.loop-line.line-index c.args.unknowns.now c.loop-line-test.false) c.loop-line.invariant
