use Rattle.std.proofs.Common.{refl}
use Rattle.std.proofs.lemmas.Bool.{false≢true}
use Rattle.copy_rules.proofs.Pads.{no_first_pin, no_second_pin, unlike_told}
use Rattle.copy_rules.proofs.outputs.unlike_at.Goals as goal

pub returns-then-not-is_known : goal.returns-then-not-is_known
returns-then-not-is_known c = λ circuit shows. no_first_pin c.args.parts.now circuit shows.cells_are c.args.p c.args.q (λ h. false≢true (c.if-not-is_known.ensures.1 h))

pub returns-then-not-is_known-2 : goal.returns-then-not-is_known-2
returns-then-not-is_known-2 c = λ circuit shows. no_second_pin c.args.parts.now circuit shows.cells_are c.args.p c.args.q (λ h. false≢true (c.if-not-is_known-2.ensures.1 h))

pub returns : goal.returns
returns c = λ circuit shows.
    unlike_told c.args.parts.now circuit shows.cells_are c.args.p c.args.q c.fed_alike.result (c.if-not-is_known.ensures.0 refl) (c.if-not-is_known-2.ensures.0 refl) (c.fed_alike.ensures circuit shows)
