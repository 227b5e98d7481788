use Rattle.headline_laws.proofs.Moves.{step_keeps}
use Rattle.headline_laws.proofs.step_keeps.Goals as goal

pub returns : goal.returns
returns c = step_keeps
