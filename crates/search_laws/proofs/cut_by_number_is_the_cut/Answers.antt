use Rattle.search_laws.proofs.Roads as law
use Rattle.search_laws.proofs.cut_by_number_is_the_cut.Goals as goal

pub returns : goal.returns
returns c = law.cut_is_cut
