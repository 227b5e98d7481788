use Rattle.pin_rules.proofs.Clocks.{unclocked_answer}
use Rattle.pin_rules.proofs.unclocked.not_clocked.Goals as goal

pub returns : goal.returns
returns c = λ circuit same tells. unclocked_answer c.args.parts.now c.args.feeds.now c.args.read.now c.least_unclocked.result c.requires c.least_unclocked.ensures circuit same tells
