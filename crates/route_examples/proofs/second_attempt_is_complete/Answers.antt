use Rattle.std.proofs.Common.{refl}
use Rattle.std.specs.Fmt.{digits}
use Rattle.route_examples.proofs.Answered.{two_attempts}
use Rattle.route_examples.proofs.SecondAttempt.{second_attempt}
use Rattle.route_examples.proofs.second_attempt_is_complete.Goals as goal

pub returns-clause-first : goal.returns-clause-first
unfolding digits
returns-clause-first c = refl

pub returns-clause-over_v : goal.returns-clause-over_v
unfolding digits
returns-clause-over_v c = refl

pub returns-clause-paths : goal.returns-clause-paths
returns-clause-paths c = refl

pub returns-clause-comes_out : goal.returns-clause-comes_out
returns-clause-comes_out c = second_attempt

pub returns-clause-answer : goal.returns-clause-answer
returns-clause-answer c = two_attempts
