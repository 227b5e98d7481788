use Rattle.answer_laws.proofs.Runs as law
use Rattle.answer_laws.proofs.attempts_run_to_an_end.Goals as goal

pub returns : goal.returns
returns c = law.start_runs
