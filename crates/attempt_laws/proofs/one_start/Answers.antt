use Rattle.attempt_laws.proofs.Starts.{one_start}
use Rattle.attempt_laws.proofs.one_start.Goals as goal

pub returns : goal.returns
returns c = one_start
