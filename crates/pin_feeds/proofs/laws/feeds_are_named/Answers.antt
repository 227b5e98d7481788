use Rattle.pin_feeds.proofs.Connected.{named}
use Rattle.pin_feeds.proofs.laws.feeds_are_named.Goals as goal

pub returns : goal.returns
returns c = named
