use Rattle.check_laws.proofs.NeverBoth.{never_both}
use Rattle.check_laws.proofs.never_both.Goals as goal

pub returns : goal.returns
returns c = λ files inputs a r. never_both files inputs a.design a.graph a.cells r a.is
