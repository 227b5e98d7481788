use Rattle.answer_laws.proofs.Starts as law
use Rattle.answer_laws.proofs.some_start.Goals as goal

pub returns : goal.returns
returns c = law.some_start
