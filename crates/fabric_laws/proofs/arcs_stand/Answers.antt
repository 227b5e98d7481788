use Rattle.fabric_laws.proofs.Standing.{arc_stands}
use Rattle.fabric_laws.proofs.arcs_stand.Goals as goal

pub returns : goal.returns
returns c = arc_stands
