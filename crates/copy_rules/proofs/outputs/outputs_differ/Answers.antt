use Rattle.copy_rules.proofs.Pads.{outputs_told}
use Rattle.copy_rules.proofs.outputs.outputs_differ.Goals as goal

pub returns : goal.returns
returns c = λ circuit shows t are. outputs_told circuit t c.args.pins.now are c.some_unlike.result (c.some_unlike.ensures circuit shows)
