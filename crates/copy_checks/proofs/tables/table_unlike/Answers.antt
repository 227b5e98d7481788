use Rattle.std.proofs.Common.{ap, subst}
use Rattle.table_copies.specs.Told.{TellsTables}
use Rattle.copy_checks.proofs.Telling.{tables_none, tables_some}
use Rattle.copy_checks.proofs.tables.table_unlike.Goals as goal

pub returns-in-None : goal.returns-in-None
returns-in-None c = λ circuit is i are.
    tables_none circuit c.args.triple.now c.args.number
    (subst (TellsTables circuit c.args.triple.now c.args.number) c.in-None.is (c.in_ok-told.ensures circuit is.shows is.side_is is.once c.args.triple.now c.args.number i are))

pub returns-in-Some : goal.returns-in-Some
returns-in-Some c = λ circuit is i are.
    tables_some circuit c.args.triple.now c.args.number c.in-Some.what c.unlike_of.result i
    (subst (TellsTables circuit c.args.triple.now c.args.number) c.in-Some.is (c.in_ok-told.ensures circuit is.shows is.side_is is.once c.args.triple.now c.args.number i are))
    c.unlike_of.ensures.named (ap (λ v. v.items) c.unlike_of.ensures.what)
