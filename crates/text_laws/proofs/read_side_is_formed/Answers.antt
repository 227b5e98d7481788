use Rattle.text_laws.proofs.SidePrinted.{side_formed}
use Rattle.text_laws.proofs.read_side_is_formed.Goals as goal

pub returns : goal.returns
returns c = side_formed
