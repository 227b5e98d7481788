use Rattle.upset_effect.proofs.Changing.{same_wires}
use Rattle.upset_effect.proofs.hits.are_same.Goals as goal

pub returns : goal.returns
returns c = same_wires c.args.first.now c.args.second.now c.eq.result c.eq.ensures
