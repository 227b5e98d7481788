use Rattle.upset_laws.proofs.PlainDomains.{shorts_law}
use Rattle.upset_laws.proofs.short_sources_are_exact.Goals as goal

pub returns : goal.returns
returns c = shorts_law
