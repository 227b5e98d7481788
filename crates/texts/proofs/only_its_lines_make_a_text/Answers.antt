use Rattle.texts.proofs.LineParts.{no_others}
use Rattle.texts.proofs.only_its_lines_make_a_text.Goals as goal

pub returns : goal.returns
returns c = no_others
