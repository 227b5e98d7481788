use Rattle.lasting_laws.proofs.Written.{outcome_lasts}
use Rattle.lasting_laws.proofs.what_a_run_writes_lasts.Goals as goal

pub returns : goal.returns
returns c = outcome_lasts
