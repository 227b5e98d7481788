use Rattle.upset_laws.proofs.PlainDomains.{safe_law}
use Rattle.upset_laws.proofs.safe_is_tested.Goals as goal

pub returns : goal.returns
returns c = safe_law
