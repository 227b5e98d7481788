use Rattle.inside_laws.proofs.Keeping as law
use Rattle.inside_laws.proofs.each_inside_keeps.Goals as goal

pub returns : goal.returns
returns c = law.inside_keeps
