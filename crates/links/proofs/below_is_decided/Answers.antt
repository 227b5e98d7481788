use Rattle.links.proofs.Below.{is_below}
use Rattle.links.proofs.below_is_decided.Goals as goal

pub returns : goal.returns
returns c = is_below
