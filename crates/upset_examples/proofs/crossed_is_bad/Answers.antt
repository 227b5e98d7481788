use Rattle.std.proofs.Common.{refl}
use Rattle.std.specs.Fmt.{digits}
use Rattle.upset_examples.proofs.Conditions.{crossed_bad}
use Rattle.upset_examples.proofs.crossed_is_bad.Goals as goal

pub returns-clause-hit : goal.returns-clause-hit
unfolding digits
returns-clause-hit c = refl

pub returns-clause-joined : goal.returns-clause-joined
unfolding digits
returns-clause-joined c = refl

pub returns-clause-bad : goal.returns-clause-bad
returns-clause-bad c = crossed_bad
