use Rattle.std.proofs.Common.{subst}
use Rattle.circuit.specs.Parts.{Pad}
use Rattle.copy_checks.specs.Unlike.{IsAnswer}
use Rattle.copy_checks.proofs.Order.{none_more, one_more}
use Rattle.copy_checks.proofs.outputs.with_output.Goals as goal

pub returns-in-None : goal.returns-in-None
returns-in-None c = λ circuit is held i.
    none_more circuit c.args.triple.now Pad c.args.least (subst (IsAnswer circuit c.args.triple.now Pad) c.in-None.is (c.in_ok-output_unlike.ensures circuit is held i))

pub returns-in-Some : goal.returns-in-Some
returns-in-Some c = λ circuit is held i.
    one_more circuit c.args.triple.now Pad c.args.least c.in-Some.next c.lesser.result c.lesser.ensures (subst (IsAnswer circuit c.args.triple.now Pad) c.in-Some.is (c.in_ok-output_unlike.ensures circuit is held i))
