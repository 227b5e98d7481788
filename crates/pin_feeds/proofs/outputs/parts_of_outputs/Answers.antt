use Rattle.std.proofs.Common.{None, ap, replicate, ◌∙◌}
use Rattle.circuit.specs.Parts.{sources}
use Rattle.pin_feeds.specs.Outputs.{outputs_from}
use Rattle.pin_feeds.proofs.Writing.{outputs_made, long_made}
use Rattle.pin_feeds.proofs.outputs.parts_of_outputs.Goals as goal

pub returns-clause-long : goal.returns-clause-long
returns-clause-long c = long_made c.sources.result.now c.in_ok-of_wires.of_wires.items c.args.count c.in_ok-of_wires.ensures

pub returns-clause-parts : goal.returns-clause-parts
returns-clause-parts c = outputs_made (sources c.args.parts.now) c.in_ok-of_wires.of_wires.items c.args.count (c.in_ok-of_wires.ensures ∙ ap (outputs_from (replicate c.args.count None) 0) c.sources.ensures.all)
