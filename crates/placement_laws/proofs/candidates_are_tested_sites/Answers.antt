use Rattle.placement_laws.proofs.Testing as law
use Rattle.placement_laws.proofs.candidates_are_tested_sites.Goals as goal

pub returns-clause-tested : goal.returns-clause-tested
returns-clause-tested c = law.candidate_is_tested

pub returns-clause-listed : goal.returns-clause-listed
returns-clause-listed c = law.candidate_is_listed
