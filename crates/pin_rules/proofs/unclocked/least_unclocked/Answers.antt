use Rattle.std.proofs.Common.{◌<◌, length, subst}
use Rattle.circuit.specs.Parts.{sources}
use Rattle.pin_rules.specs.Least.{part_order}
use Rattle.pin_rules.specs.Unclocked.{unclocked_at}
use Rattle.pin_rules.proofs.Finding.{least_more, sources_total}
use Rattle.pin_rules.proofs.unclocked.least_unclocked.Goals as goal

pub loop-place-preserved : goal.loop-place-preserved
loop-place-preserved c =
    least_more part_order sources_total (sources c.args.parts.now) c.sources.result.now (λ k. unclocked_at c.args.parts.now c.args.feeds.now c.args.read.now k) c.loop-place.place c.loop-place.least c.with_part-least.result c.unclocked_at-unclocked.result
    (subst (λ xs. c.loop-place.place < length xs) c.sources-place-end.ensures.all c.loop-place-test.true) c.sources.ensures.all c.loop-place.invariant c.unclocked_at-unclocked.ensures c.with_part-least.ensures
