use Rattle.attempt_laws.proofs.Runs.{one_answer}
use Rattle.attempt_laws.proofs.one_answer.Goals as goal

pub returns : goal.returns
returns c = one_answer
