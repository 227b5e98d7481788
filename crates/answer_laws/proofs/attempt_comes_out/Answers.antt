use Rattle.answer_laws.proofs.Outcomes as law
use Rattle.answer_laws.proofs.attempt_comes_out.Goals as goal

pub returns : goal.returns
returns c = λ read rims y order named. law.comes_out read rims order y named
