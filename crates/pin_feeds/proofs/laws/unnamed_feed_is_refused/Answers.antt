use Rattle.design_checks.specs.PinChecks.{unnamed}
use Rattle.pin_feeds.proofs.laws.unnamed_feed_is_refused.Goals as goal

pub returns : goal.returns
returns c = λ g k u named wire at. unnamed named.pin.ref u.feed wire named.least named.feed at
