use Rattle.texts.proofs.Slices.{few_lines}
use Rattle.texts.proofs.lines_are_few.Goals as goal

pub returns : goal.returns
returns c = few_lines
