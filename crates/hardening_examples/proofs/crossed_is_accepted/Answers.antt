use Rattle.hardening_examples.proofs.AcceptedFiles.{crossed_accepted}
use Rattle.hardening_examples.proofs.crossed_is_accepted.Goals as goal

pub returns : goal.returns
returns c = crossed_accepted
