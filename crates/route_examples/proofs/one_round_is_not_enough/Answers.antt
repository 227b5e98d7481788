use Rattle.route_examples.proofs.Answered.{one_round}
use Rattle.route_examples.proofs.one_round_is_not_enough.Goals as goal

pub returns : goal.returns
returns c = one_round
