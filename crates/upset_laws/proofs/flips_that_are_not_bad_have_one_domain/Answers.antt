use Rattle.upset_laws.proofs.Masked.{one_domain}
use Rattle.upset_laws.proofs.flips_that_are_not_bad_have_one_domain.Goals as goal

pub returns : goal.returns
returns c = one_domain
