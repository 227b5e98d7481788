use Rattle.attempt_laws.proofs.Outcomes.{one_outcome}
use Rattle.attempt_laws.proofs.one_outcome.Goals as goal

pub returns : goal.returns
returns c = λ device read rims y order out other is p q. one_outcome device read rims order y out other is p q
