use Rattle.std.proofs.Common.{sym, ap, subst, ◌∙◌}
use Rattle.copy_rules.specs.Copies.{AreReadCopies}
use Rattle.copy_rules.specs.Fields.{field_of}
use Rattle.copy_checks.proofs.Telling.{field_told}
use Rattle.copy_checks.proofs.registers.register_unlike.Goals as goal

pub returns-in-None : goal.returns-in-None
returns-in-None c = λ circuit is i are d.
    let copies = subst (AreReadCopies circuit c.args.triple.now c.args.number) (sym c.deref.ensures.value) (c.in_ok-read.ensures circuit is c.args.triple.now c.args.number are) in
    c.in-None.ensures circuit is.shows.feeds_are c.args.triple.now c.args.number copies d.0 d.1.differs

pub returns : goal.returns
returns c = λ circuit is i are.
    let copies = subst (AreReadCopies circuit c.args.triple.now c.args.number) (sym c.deref.ensures.value) (c.in_ok-read.ensures circuit is c.args.triple.now c.args.number are) in
    field_told circuit c.args.triple.now c.args.number (field_of c.in-Some.field) c.unlike_of.result i (c.in-Some.ensures circuit is.shows.feeds_are c.args.triple.now c.args.number copies)
    c.unlike_of.ensures.named (ap (λ v. v.items) c.unlike_of.ensures.what ∙ (c.in_ok-what-in-Some.ensures.items ∙ c.text_of.ensures))
