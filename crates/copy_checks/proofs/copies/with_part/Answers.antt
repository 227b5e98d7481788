use Rattle.std.proofs.Common.{subst}
use Rattle.copy_checks.specs.Unlike.{IsAnswer, kind_at}
use Rattle.copy_checks.proofs.Order.{none_more, one_more}
use Rattle.copy_checks.proofs.copies.with_part.Goals as goal

pub returns-in-None : goal.returns-in-None
returns-in-None c = λ circuit is i are.
    let kind = kind_at c.args.which c.args.number in
    none_more circuit c.args.triple.now kind c.args.least (subst (IsAnswer circuit c.args.triple.now kind) c.in-None.is (c.in_ok-part_unlike.ensures circuit is i are))

pub returns-in-Some : goal.returns-in-Some
returns-in-Some c = λ circuit is i are.
    let kind = kind_at c.args.which c.args.number in
    one_more circuit c.args.triple.now kind c.args.least c.in-Some.next c.lesser.result c.lesser.ensures (subst (IsAnswer circuit c.args.triple.now kind) c.in-Some.is (c.in_ok-part_unlike.ensures circuit is i are))
