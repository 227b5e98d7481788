use Rattle.texts.proofs.Printed.{bit_of_spelling}
use Rattle.texts.proofs.spelled_bit_is_read.Goals as goal

pub returns : goal.returns
returns c = bit_of_spelling
