use Rattle.std.proofs.Common.{◌<◌, arith}
use Rattle.std.proofs.lemmas.Bool.{false≢true}
use Rattle.copy_rules.proofs.fields.differs_from.Goals as goal

pub returns : goal.returns
returns c = λ circuit shows. ((λ h. absurd (false≢true h)), (λ d. absurd (let b = d.1.0 in let below : d.0 < c.loop-i.i = omega arith in c.loop-i.invariant circuit shows d.0 below d.1.1)))
