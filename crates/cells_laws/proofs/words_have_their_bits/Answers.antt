use Rattle.cells_laws.proofs.Words.{bit_of_word}
use Rattle.cells_laws.proofs.words_have_their_bits.Goals as goal

pub returns : goal.returns
returns c = bit_of_word
