use Rattle.std.proofs.Common.{ℕ, ◌<◌, List, length, arith, subst, sym, ◌∙◌}
use Rattle.std.proofs.lemmas.Option.{MatchOption-at_none, MatchOption-at_some}
use Rattle.cycle_order.specs.Orders.{IsLeastOnCycle, IsOnCycle, IsOrder, Leads}
use Rattle.cycle_order.specs.Trials.{IsNext}
use Rattle.cycle_order.proofs.Ordering.{AreRows, all_known, all_there, ended_free, is_order, least_by_links, none_by_links, other_way, passed_free, rows_are}
use Rattle.cycle_order.proofs.ordered.order.Goals as goal
use Rattle.cycle_order.proofs.ordered.order.Goals.{In-None, In_ok-before}

rows : (c : In_ok-before) → AreRows c.args.count c.args.sources.now c.args.sinks.now c.in_ok-next.next c.in_ok-before.before
rows c = rows_are c.args.count c.args.sources.now c.args.sinks.now c.in_ok-next.next c.in_ok-before.before c.requires.sources c.requires.sinks c.in_ok-next.ensures c.in_ok-before.ensures

pub list_in_turn-requires-clause-rows : goal.list_in_turn-requires-clause-rows
list_in_turn-requires-clause-rows c = (rows (goal.at.list_in_turn-requires-clause-rows c).In_ok-before).both

pub list_in_turn-requires-clause-few : goal.list_in_turn-requires-clause-few
list_in_turn-requires-clause-few c = let e = (rows (goal.at.list_in_turn-requires-clause-few c).In_ok-before).long in let f = c.ranges.count.fits in omega (arith, e, f)

pub list_in_turn-requires-clause-known : goal.list_in_turn-requires-clause-known
list_in_turn-requires-clause-known c =
    all_known c.args.count c.args.sources.now c.args.sinks.now c.in_ok-next.next c.in_ok-before.before (rows (goal.at.list_in_turn-requires-clause-known c).In_ok-before)
    c.deref.result.now (c.deref.ensures.value ∙ c.in_ok-all.ensures)

pub list_in_turn-requires-clause-all : goal.list_in_turn-requires-clause-all
list_in_turn-requires-clause-all c =
    all_there c.args.count c.args.sources.now c.args.sinks.now c.in_ok-next.next c.in_ok-before.before (rows (goal.at.list_in_turn-requires-clause-all c).In_ok-before)
    c.deref.result.now (c.deref.ensures.value ∙ c.in_ok-all.ensures)

pub list_in_turn-requires-2-clause-rows : goal.list_in_turn-requires-2-clause-rows
list_in_turn-requires-2-clause-rows c = other_way c.in_ok-next.next c.in_ok-before.before (rows (goal.at.list_in_turn-requires-2-clause-rows c).In_ok-before).both

pub list_in_turn-requires-2-clause-few : goal.list_in_turn-requires-2-clause-few
list_in_turn-requires-2-clause-few c =
    let r = rows (goal.at.list_in_turn-requires-2-clause-few c).In_ok-before in
    let e = r.long in let l = r.both.long in let f = c.ranges.count.fits in omega (arith, e, f, l)

pub list_in_turn-requires-2-clause-known : goal.list_in_turn-requires-2-clause-known
list_in_turn-requires-2-clause-known c = λ v i.
    let r = rows (goal.at.list_in_turn-requires-2-clause-known c).In_ok-before in
    let l = r.both.long in
    let k = all_known c.args.count c.args.sources.now c.args.sinks.now c.in_ok-next.next c.in_ok-before.before r c.deref-2.result.now (c.deref-2.ensures.value ∙ c.in_ok-all.ensures) v i in
    omega (arith, k, l)

pub list_in_turn-requires-2-clause-all : goal.list_in_turn-requires-2-clause-all
list_in_turn-requires-2-clause-all c = λ v h.
    let r = rows (goal.at.list_in_turn-requires-2-clause-all c).In_ok-before in
    let l = r.both.long in
    all_there c.args.count c.args.sources.now c.args.sinks.now c.in_ok-next.next c.in_ok-before.before r c.deref-2.result.now (c.deref-2.ensures.value ∙ c.in_ok-all.ensures) v (omega (arith, l, h))

pub least_on_cycle-requires-clause-within : goal.least_on_cycle-requires-clause-within
least_on_cycle-requires-clause-within c = (rows (goal.at.least_on_cycle-requires-clause-within c).In_ok-before).both.next_within

pub least_on_cycle-requires-clause-passed : goal.least_on_cycle-requires-clause-passed
least_on_cycle-requires-clause-passed c =
    passed_free c.in_ok-next.next c.in_ok-before.before c.in_ok-passed.passed.nodes (rows (goal.at.least_on_cycle-requires-clause-passed c).In_ok-before).both c.in_ok-passed.ensures.trimmed

pub least_on_cycle-requires-clause-ended : goal.least_on_cycle-requires-clause-ended
least_on_cycle-requires-clause-ended c = ended_free c.in_ok-next.next c.in_ok-ended.ended.nodes c.in_ok-ended.ensures.trimmed

pub returns-in-Some-clause-answer : goal.returns-in-Some-clause-answer
returns-in-Some-clause-answer c =
    least_by_links c.args.count c.args.sources.now c.args.sinks.now c.in_ok-next.next c.in_ok-before.before (rows (goal.at.returns-in-Some-clause-answer c).In_ok-before) c.in-Some.node
    (MatchOption-at_some {o = c.in_ok-node.field-0} ((v : ℕ) → v < length c.in_ok-next.next → IsOnCycle (IsNext c.in_ok-next.next) v → ⊥) (IsLeastOnCycle (IsNext c.in_ok-next.next)) c.in-Some.node
    c.in-Some.is c.in_ok-node.ensures)

none : (c : In-None) → (v : ℕ) → v < length c.in_ok-next.next → IsOnCycle (IsNext c.in_ok-next.next) v → ⊥
none c =
    MatchOption-at_none {o = c.in_ok-node.field-0} ((v : ℕ) → v < length c.in_ok-next.next → IsOnCycle (IsNext c.in_ok-next.next) v → ⊥) (IsLeastOnCycle (IsNext c.in_ok-next.next))
    c.in-None.is c.in_ok-node.ensures

pub returns-clause-order : goal.returns-clause-order
returns-clause-order c =
    subst (λ (nodes : List ℕ). IsOrder c.args.count (Leads c.args.sources.now c.args.sinks.now) nodes) (sym c.into_nodes.ensures)
    (is_order c.args.count c.args.sources.now c.args.sinks.now c.in_ok-next.next c.in_ok-before.before (rows (goal.at.returns-clause-order c).In_ok-before) c.in_ok-passed.passed.nodes
    c.in_ok-passed.ensures.trimmed (none (goal.at.returns-clause-order c).In-None))

pub returns-clause-answer : goal.returns-clause-answer
returns-clause-answer c =
    none_by_links c.args.count c.args.sources.now c.args.sinks.now c.in_ok-next.next c.in_ok-before.before (rows (goal.at.returns-clause-answer c).In_ok-before)
    (none (goal.at.returns-clause-answer c).In-None)
