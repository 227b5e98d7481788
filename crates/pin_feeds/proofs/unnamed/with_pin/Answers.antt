use Rattle.std.proofs.Common.{ap, sym, ◌∙◌}
use Rattle.pin_feeds.specs.Outputs.{unnamed_at}
use Rattle.pin_feeds.proofs.Least.{passed}
use Rattle.pin_feeds.proofs.unnamed.with_pin.Goals as goal

-- the pin is passed over
pub returns-in-None : goal.returns-in-None
returns-in-None c =
    passed (unnamed_at c.args.feeds.now c.args.parts.now) c.args.pins.now c.args.place c.index-pins-place.result c.args.least c.requires.below c.index-pins-place.is c.requires.least
    (ap (λ x. unnamed_at c.args.feeds.now c.args.parts.now x.wire) (sym c.pin.view_is) ∙ (sym c.unnamed_feed.ensures ∙ c.in-None.is))
