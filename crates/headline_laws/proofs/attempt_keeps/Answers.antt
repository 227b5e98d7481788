use Rattle.headline_laws.proofs.Attempts.{attempt_keeps}
use Rattle.headline_laws.proofs.attempt_keeps.Goals as goal

pub returns : goal.returns
returns c = attempt_keeps
