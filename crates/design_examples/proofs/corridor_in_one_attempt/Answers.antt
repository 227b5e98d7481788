use Rattle.std.proofs.Common.{refl}
use Rattle.std.specs.Fmt.{digits}
use Rattle.design_examples.proofs.corridor_in_one_attempt.Goals as goal

pub returns : goal.returns
unfolding digits
returns c = refl
