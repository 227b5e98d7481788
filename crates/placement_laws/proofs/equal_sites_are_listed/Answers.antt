use Rattle.placement_laws.proofs.Listing as law
use Rattle.placement_laws.proofs.equal_sites_are_listed.Goals as goal

pub returns-clause-some : goal.returns-clause-some
returns-clause-some c = law.some_equal_sites

pub returns-clause-one : goal.returns-clause-one
returns-clause-one c = law.one_list
