use Rattle.fabric_laws.proofs.Standing.{arc_is_there}
use Rattle.fabric_laws.proofs.named_arcs_are_there.Goals as goal

pub returns : goal.returns
returns c = arc_is_there
