use Rattle.line_laws.proofs.Answers as law
use Rattle.line_laws.proofs.answers_are_alike.Goals as goal

pub returns-clause-answers : goal.returns-clause-answers
returns-clause-answers c = law.answers_alike

pub returns-clause-some : goal.returns-clause-some
returns-clause-some c = law.job_twice
