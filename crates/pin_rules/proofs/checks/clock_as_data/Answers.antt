use Rattle.pin_rules.proofs.Laws.{clock_answer}
use Rattle.pin_rules.proofs.checks.clock_as_data.Goals as goal

pub returns : goal.returns
returns c = λ circuit same tells. clock_answer c.args.parts.now c.args.feeds.now c.args.read.now c.args.owners.now c.requires.read c.requires.owners c.least_pin.result circuit same tells c.least_pin.ensures
