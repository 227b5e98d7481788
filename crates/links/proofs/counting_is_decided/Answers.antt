use Rattle.links.proofs.Feeds.{is_counting}
use Rattle.links.proofs.counting_is_decided.Goals as goal

pub returns : goal.returns
returns c = is_counting
