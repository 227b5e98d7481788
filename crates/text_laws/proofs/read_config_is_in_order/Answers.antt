use Rattle.text_laws.proofs.ConfigOrder.{read_in_order}
use Rattle.text_laws.proofs.read_config_is_in_order.Goals as goal

pub returns : goal.returns
returns c = read_in_order
