use Rattle.std.proofs.Common.{◌<◌, sym, subst, below_more, arith}
use Rattle.std.proofs.lemmas.Bool.{false≢true}
use Rattle.copy_rules.specs.Copies.{DiffersFrom}
use Rattle.copy_rules.specs.Fields.{field_of}
use Rattle.copy_rules.proofs.fields.some_differ.Goals as goal

-- one copy more doesn't differ from any
pub loop-i-preserved : goal.loop-i-preserved
loop-i-preserved c = λ circuit shows.
    below_more _ _ (c.loop-i.invariant circuit shows)
    (λ d. false≢true ((c.if-differs_from.ensures circuit shows).1 (subst (λ k. DiffersFrom circuit (field_of c.args.field) c.args.copies.now k) (sym c.copy_at.ensures) d)))

pub returns : goal.returns
returns c = λ circuit shows. ((λ h. absurd (false≢true h)), (λ d. absurd (let b = d.1.0 in let below : d.0 < c.loop-i.i = omega arith in c.loop-i.invariant circuit shows d.0 below d.1.1)))
