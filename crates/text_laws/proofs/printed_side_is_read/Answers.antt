use Rattle.text_laws.proofs.SidePrinted.{side_read_back}
use Rattle.text_laws.proofs.printed_side_is_read.Goals as goal

pub returns : goal.returns
returns c = side_read_back
