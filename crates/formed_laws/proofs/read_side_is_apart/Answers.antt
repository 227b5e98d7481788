use Rattle.formed_laws.proofs.SideRead.{read_apart}
use Rattle.formed_laws.proofs.read_side_is_apart.Goals as goal

pub returns : goal.returns
returns c = read_apart
