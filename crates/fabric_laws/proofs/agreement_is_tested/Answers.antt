use Rattle.fabric_laws.proofs.Agreeing.{agreeing}
use Rattle.fabric_laws.proofs.agreement_is_tested.Goals as goal

pub returns : goal.returns
returns c = agreeing
