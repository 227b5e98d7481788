use Rattle.upset_laws.proofs.PlainDomains.{bad_law}
use Rattle.upset_laws.proofs.bad_is_tested.Goals as goal

pub returns : goal.returns
returns c = bad_law
