use Rattle.std.proofs.Common.{refl}
use Rattle.std.specs.Fmt.{digits}
use Rattle.route_examples.proofs.FirstAttempt.{blocked}
use Rattle.route_examples.proofs.eighth_connection_is_blocked.Goals as goal

pub returns-clause-seventh : goal.returns-clause-seventh
unfolding digits
returns-clause-seventh c = refl

pub returns-clause-inside : goal.returns-clause-inside
unfolding digits
returns-clause-inside c = refl

pub returns-clause-rim : goal.returns-clause-rim
unfolding digits
returns-clause-rim c = refl

pub returns-clause-blocked : goal.returns-clause-blocked
returns-clause-blocked c = blocked
