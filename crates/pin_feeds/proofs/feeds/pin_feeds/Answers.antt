use Rattle.pin_feeds.proofs.Least.{named_answer, unnamed_answer}
use Rattle.pin_feeds.proofs.feeds.pin_feeds.Goals as goal

pub returns-in-Some-clause-answer : goal.returns-in-Some-clause-answer
returns-in-Some-clause-answer c =
    unnamed_answer c.args.parts.now c.args.feeds.now c.in_ok-of_wires.of_wires.items c.deref.result.now c.pins.result.now c.least_unnamed.result c.in-Some.unnamed
    c.pins.ensures.all c.deref.ensures.value c.in_ok-of_wires.ensures.parts c.in_ok-of_wires.ensures.long c.least_unnamed.ensures c.in-Some.is

pub returns-clause-answer : goal.returns-clause-answer
returns-clause-answer c =
    named_answer c.args.parts.now c.args.feeds.now c.in_ok-of_wires.of_wires.items c.deref.result.now c.deref-in-None.result.now c.pins.result.now c.pins-in-None.result.now c.least_unnamed.result c.in_ok-of_pins-in-None.of_pins.items
    c.pins.ensures.all c.pins-in-None.ensures.all c.deref.ensures.value c.deref-in-None.ensures.value c.in_ok-of_wires.ensures.parts c.in_ok-of_wires.ensures.long c.least_unnamed.ensures c.in-None.is c.in_ok-of_pins-in-None.ensures
