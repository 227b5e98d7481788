use Rattle.fabric_laws.proofs.Writes.{last_written}
use Rattle.fabric_laws.proofs.last_write_decides.Goals as goal

pub returns : goal.returns
returns c = last_written
