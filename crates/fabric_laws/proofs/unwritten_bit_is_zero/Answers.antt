use Rattle.fabric_laws.proofs.Writes.{unwritten}
use Rattle.fabric_laws.proofs.unwritten_bit_is_zero.Goals as goal

pub returns : goal.returns
returns c = unwritten
