use Rattle.texts.proofs.Slices.{line_stands}
use Rattle.texts.proofs.lines_are_slices.Goals as goal

pub returns : goal.returns
returns c = line_stands
