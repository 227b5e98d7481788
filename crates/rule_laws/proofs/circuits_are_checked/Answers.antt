use Rattle.rule_laws.proofs.Checked as law
use Rattle.rule_laws.proofs.circuits_are_checked.Goals as goal

pub returns : goal.returns
returns c = law.circuits_are
