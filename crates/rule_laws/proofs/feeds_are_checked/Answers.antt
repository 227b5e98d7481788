use Rattle.rule_laws.proofs.Checked as law
use Rattle.rule_laws.proofs.feeds_are_checked.Goals as goal

pub returns-clause-sources : goal.returns-clause-sources
returns-clause-sources c = law.sources_are

pub returns-clause-loops : goal.returns-clause-loops
returns-clause-loops c = law.loops_are
