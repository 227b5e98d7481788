use Rattle.texts.proofs.WordParts.{no_others}
use Rattle.texts.proofs.only_its_words_make_a_line.Goals as goal

pub returns : goal.returns
returns c = λ line words h. no_others line.start line.text words h
