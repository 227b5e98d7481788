use Rattle.run_end_laws.proofs.Statuses.{answer_status}
use Rattle.run_end_laws.proofs.answers_are_no_faults.Goals as goal

pub returns : goal.returns
returns c = answer_status
