use Rattle.std.proofs.Common.{refl}
use Rattle.route_examples.proofs.Mended.{answered}
use Rattle.route_examples.proofs.crossed_becomes_the_toggle.Goals as goal

pub returns-clause-paths : goal.returns-clause-paths
returns-clause-paths c = refl

pub returns-clause-answer : goal.returns-clause-answer
returns-clause-answer c = answered
