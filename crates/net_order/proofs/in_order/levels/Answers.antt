use Rattle.std.proofs.Common.{◌≡◌, Err, rules, subst, sym}
use Rattle.std.specs.Prelude.{MatchResult}
use Rattle.design_checks.specs.Checks.{Passes}
use Rattle.design_checks.specs.PinChecks.{TablesLoop}
use Rattle.net_order.specs.Orders.{Refuses}
use Rattle.net_order.proofs.Ordered.{passed, refused}
use Rattle.net_order.proofs.in_order.levels.Goals as goal

pub returns-in_err-nodes-clause-answer : goal.returns-in_err-nodes-clause-answer
returns-in_err-nodes-clause-answer c = λ circuit same tells order.
    let is : c.from_residual.result ≡ Err c.in_err-nodes.field-0.0 = search rules in
    subst (λ r. MatchResult r (λ _. Passes (TablesLoop circuit)) (Refuses circuit)) (sym is)
    (refused c.args.parts.now c.args.feeds.now c.in_err-nodes.field-0.0 c.in_err-nodes.ensures.answer circuit same tells order)

pub returns-clause-answer : goal.returns-clause-answer
returns-clause-answer c = λ circuit same tells order. passed c.args.parts.now c.args.feeds.now c.in_ok-nodes.ensures.answer circuit same tells order
