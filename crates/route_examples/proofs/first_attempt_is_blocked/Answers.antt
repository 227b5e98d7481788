use Rattle.route_examples.proofs.FirstAttempt.{first_attempt}
use Rattle.route_examples.proofs.first_attempt_is_blocked.Goals as goal

pub returns : goal.returns
returns c = first_attempt
