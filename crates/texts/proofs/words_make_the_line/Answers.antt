use Rattle.texts.proofs.WordParts.{words_make}
use Rattle.texts.proofs.words_make_the_line.Goals as goal

pub returns : goal.returns
returns c = λ line. words_make line.start line.text
