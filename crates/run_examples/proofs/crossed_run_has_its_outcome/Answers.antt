use Rattle.run_examples.proofs.CrossedRun.{words_are, the_outcome}
use Rattle.run_examples.proofs.crossed_run_has_its_outcome.Goals as goal

pub returns : goal.returns
returns c = record { words = words_are; outcome = the_outcome }
