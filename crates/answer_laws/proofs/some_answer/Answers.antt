use Rattle.answer_laws.proofs.Runs as law
use Rattle.answer_laws.proofs.some_answer.Goals as goal

pub returns : goal.returns
returns c = law.some_answer
