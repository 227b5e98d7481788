use Rattle.line_laws.proofs.Answers as law
use Rattle.line_laws.proofs.plain_job_is_answered.Goals as goal

pub returns : goal.returns
returns c = law.answer_plain
