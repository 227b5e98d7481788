use Rattle.pin_rules.proofs.Laws.{foreign_answer}
use Rattle.pin_rules.proofs.checks.foreign_read.Goals as goal

pub returns : goal.returns
returns c = λ circuit same tells voting.
    foreign_answer c.args.parts.now c.args.feeds.now c.args.read.now c.args.owners.now c.requires.read c.requires.owners c.least_pin.result circuit same tells c.args.voters voting c.least_pin.ensures
