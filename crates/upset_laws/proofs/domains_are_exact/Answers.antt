use Rattle.upset_laws.proofs.PlainDomains.{domains_listed}
use Rattle.upset_laws.proofs.domains_are_exact.Goals as goal

pub returns : goal.returns
returns c = domains_listed
