use Rattle.fabric_laws.proofs.WireNames.{one_wire}
use Rattle.fabric_laws.proofs.each_name_has_one_wire.Goals as goal

pub returns : goal.returns
returns c = one_wire
