use Rattle.std.proofs.Common.{◌<◌, length, subst}
use Rattle.circuit.specs.Pins.{pins}
use Rattle.pin_rules.specs.Flags.{flag_at}
use Rattle.pin_rules.specs.Least.{pin_order}
use Rattle.pin_rules.proofs.Finding.{least_more, pins_total}
use Rattle.pin_rules.proofs.least.least_pin.Goals as goal

pub loop-place-preserved : goal.loop-place-preserved
loop-place-preserved c =
    least_more pin_order pins_total (pins c.args.parts.now) c.pins.result.now (λ i. flag_at c.args.rule.now c.args.parts.now c.args.feeds.now c.args.read.now c.args.owners.now i) c.loop-place.place c.loop-place.least c.with_pin-least.result c.breaks_at-breaks.result
    (subst (λ xs. c.loop-place.place < length xs) c.pins-place-end.ensures.all c.loop-place-test.true) c.pins.ensures.all c.loop-place.invariant c.breaks_at-breaks.ensures c.with_pin-least.ensures
