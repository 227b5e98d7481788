use Rattle.command_laws.proofs.Run.{run_fits}
use Rattle.command_laws.proofs.words_of_run.Goals as goal

pub returns : goal.returns
returns c = record { least = λ known words blocks h. (run_fits known words blocks h).0; most = λ known words blocks h. (run_fits known words blocks h).1 }
