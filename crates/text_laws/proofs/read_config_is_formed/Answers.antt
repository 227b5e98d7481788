use Rattle.text_laws.proofs.ReadFormed.{read_formed}
use Rattle.text_laws.proofs.read_config_is_formed.Goals as goal

pub returns : goal.returns
returns c = read_formed
