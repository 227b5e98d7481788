use Rattle.placement_laws.proofs.Faults as law
use Rattle.placement_laws.proofs.move_is_decided.Goals as goal

pub returns-clause-decided : goal.returns-clause-decided
returns-clause-decided c = law.move_is_decided

pub returns-clause-never_both : goal.returns-clause-never_both
returns-clause-never_both c = law.never_both

pub returns-clause-one : goal.returns-clause-one
returns-clause-one c = law.one_fault
