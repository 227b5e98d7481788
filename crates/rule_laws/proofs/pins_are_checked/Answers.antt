use Rattle.rule_laws.proofs.Checked as law
use Rattle.rule_laws.proofs.pins_are_checked.Goals as goal

pub returns-clause-open_pins : goal.returns-clause-open_pins
returns-clause-open_pins c = law.open_pins_are

pub returns-clause-clocks : goal.returns-clause-clocks
returns-clause-clocks c = law.clocks_are

pub returns-clause-domains : goal.returns-clause-domains
returns-clause-domains c = law.domains_are
