use Rattle.texts.proofs.LineParts.{lines_make}
use Rattle.texts.proofs.lines_make_the_text.Goals as goal

pub returns : goal.returns
returns c = lines_make
