use Rattle.texts.proofs.Slices.{few_words}
use Rattle.texts.proofs.words_are_few.Goals as goal

pub returns : goal.returns
returns c = few_words
