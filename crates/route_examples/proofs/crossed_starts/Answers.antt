use Rattle.std.proofs.Common.{refl}
use Rattle.std.specs.Fmt.{digits}
use Rattle.route_examples.proofs.Uncrossed.{started}
use Rattle.route_examples.proofs.crossed_starts.Goals as goal

pub returns-clause-start : goal.returns-clause-start
returns-clause-start c = started

pub returns-clause-order : goal.returns-clause-order
unfolding digits
returns-clause-order c = refl
