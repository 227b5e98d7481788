use Rattle.texts.proofs.Slices.{line_order}
use Rattle.texts.proofs.lines_come_in_order.Goals as goal

pub returns : goal.returns
returns c = line_order
