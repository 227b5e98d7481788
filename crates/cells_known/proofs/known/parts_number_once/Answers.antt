use Rattle.cells_known.proofs.Apart.{numbered_once_all}
use Rattle.cells_known.proofs.known.parts_number_once.Goals as goal

pub returns : goal.returns
returns c = numbered_once_all
