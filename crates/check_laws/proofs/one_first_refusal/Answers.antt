use Rattle.check_laws.proofs.OneRefusal.{one_first}
use Rattle.check_laws.proofs.one_first_refusal.Goals as goal

pub returns : goal.returns
returns c = one_first
