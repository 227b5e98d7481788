use Rattle.written_laws.proofs.Written.{outcome_hardened}
use Rattle.written_laws.proofs.what_a_run_writes_is_hardened.Goals as goal

pub returns : goal.returns
returns c = outcome_hardened
