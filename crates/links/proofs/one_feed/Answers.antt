use Rattle.links.proofs.Feeds.{one_feed}
use Rattle.links.proofs.one_feed.Goals as goal

pub returns : goal.returns
returns c = one_feed
