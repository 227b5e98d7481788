use Rattle.std.proofs.Common.{◌+◌, get_or, None, ap, ◌∙◌, arith}
use Rattle.circuit.specs.Pins.{pins}
use Rattle.circuit_parts.specs.Flat.{first_pin}
use Rattle.copy_rules.proofs.Fed.{no_feed, feed_there, first_room}
use Rattle.copy_rules.proofs.feeds.feed_of.Goals as goal

pub overflow_add-first_pin : goal.overflow_add-first_pin
overflow_add-first_pin c =
    let room = first_room (pins c.args.parts.now) c.pins_of-row.result.now (first_pin c.args.parts.now c.args.part) (first_pin c.args.parts.now (c.args.part + 1)) c.in-Some.place c.in-Some.ensures.0 c.pins_of-row.ensures.range c.in-Some.ensures.1.0 in
    let few = c.pins.ensures.few in
    let first = c.first_pin.ensures.first in
    omega arith

pub returns-in-None : goal.returns-in-None
returns-in-None c = no_feed c.args.parts.now c.args.feeds.now c.args.part c.args.number c.pins_of-row.result.now c.pins_of-row.ensures.pins c.pins_of-row.ensures.range c.in-None.ensures

pub returns-in-Some : goal.returns-in-Some
returns-in-Some c =
    feed_there c.args.parts.now c.args.feeds.now c.args.part c.args.number c.pins_of-row.result.now c.pins_of-row.ensures.pins c.pins_of-row.ensures.range c.in-Some.place c.feed_at.result c.in-Some.ensures
    (c.feed_at.ensures ∙ ap (λ m. get_or c.args.feeds.now (m + c.in-Some.place) None) c.first_pin.ensures.first)
