use Rattle.text_laws.proofs.SameAgain.{same_again}
use Rattle.text_laws.proofs.printed_config_says_the_same.Goals as goal

pub returns : goal.returns
returns c = same_again
