use Rattle.text_laws.proofs.SameWrites.{same_image, same_lines, same_agreeing}
use Rattle.text_laws.proofs.the_same_but_for_lines.Goals as goal

pub returns-clause-image : goal.returns-clause-image
returns-clause-image c = same_image

pub returns-clause-lines : goal.returns-clause-lines
returns-clause-lines c = same_lines

pub returns-clause-agree : goal.returns-clause-agree
returns-clause-agree c = same_agreeing
