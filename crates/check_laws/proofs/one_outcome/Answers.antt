use Rattle.check_laws.proofs.OneRun.{one_of_command}
use Rattle.check_laws.proofs.one_outcome.Goals as goal

pub returns : goal.returns
returns c = one_of_command
