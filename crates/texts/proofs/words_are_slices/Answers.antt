use Rattle.texts.proofs.Slices.{word_stands}
use Rattle.texts.proofs.words_are_slices.Goals as goal

pub returns : goal.returns
returns c = word_stands
