use Rattle.headline_laws.proofs.Starts.{start_keeps}
use Rattle.headline_laws.proofs.start_keeps.Goals as goal

pub returns : goal.returns
returns c = start_keeps
