use Rattle.headline_laws.proofs.Runs.{answer_keeps}
use Rattle.headline_laws.proofs.answer_keeps.Goals as goal

pub returns : goal.returns
returns c = λ job sound y r. answer_keeps job sound r.0 y r.1.0 r.1.1
