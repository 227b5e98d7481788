use Rattle.links.proofs.Feeds.{is_fed}
use Rattle.links.proofs.fed_is_decided.Goals as goal

pub returns : goal.returns
returns c = is_fed
