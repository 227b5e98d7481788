use Rattle.upset_laws.proofs.Masked.{flips_masked}
use Rattle.upset_laws.proofs.flips_that_are_not_bad_are_masked.Goals as goal

pub returns : goal.returns
returns c = λ k s. flips_masked k s.clean s.formed s.triplicated
