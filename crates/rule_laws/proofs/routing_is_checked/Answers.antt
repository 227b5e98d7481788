use Rattle.rule_laws.proofs.Checked as law
use Rattle.rule_laws.proofs.routing_is_checked.Goals as goal

pub returns : goal.returns
returns c = law.routing_is
