use Rattle.texts.proofs.Slices.{word_order}
use Rattle.texts.proofs.words_come_in_order.Goals as goal

pub returns : goal.returns
returns c = word_order
