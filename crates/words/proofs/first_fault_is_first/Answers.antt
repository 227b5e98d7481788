use Rattle.words.proofs.Found.{found}
use Rattle.words.proofs.first_fault_is_first.Goals as goal

pub returns : goal.returns
returns g c = found
