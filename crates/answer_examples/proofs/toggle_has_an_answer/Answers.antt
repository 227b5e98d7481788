use Rattle.answer_examples.proofs.Toggle as law
use Rattle.answer_examples.proofs.toggle_has_an_answer.Goals as goal

pub returns-clause-apart : goal.returns-clause-apart
returns-clause-apart c = law.apart

pub returns-clause-answer : goal.returns-clause-answer
returns-clause-answer c = law.some_answer
