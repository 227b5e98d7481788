use Rattle.upset_laws.proofs.Roots.{roots_domains}
use Rattle.upset_laws.proofs.domains_are_those_of_roots.Goals as goal

pub returns : goal.returns
returns c = roots_domains
