use Rattle.pin_feeds.proofs.Connected.{connections_listed}
use Rattle.pin_feeds.proofs.laws.connections_are_listed.Goals as goal

pub returns : goal.returns
returns c = connections_listed
