use Rattle.text_laws.proofs.ConfigPrinted.{printed_says}
use Rattle.text_laws.proofs.printed_config_says_it.Goals as goal

pub returns : goal.returns
returns c = printed_says
