use Rattle.std.proofs.Common.{ℕ, ◌≡◌, subst, sym, ◌∙◌, below_more, arith}
use Rattle.std.proofs.lemmas.Bool.{false≢true}
use Rattle.cycle_order.specs.Orders.{IsOnCycle}
use Rattle.cycle_order.specs.Trials.{IsNext}
use Rattle.cycle_order.proofs.Turns.{least_of}
use Rattle.cycle_order.proofs.cycles.least_on_cycle.Goals as goal

pub returns-then-found : goal.returns-then-found
returns-then-found c =
    let is : c.from_u32-node.result ≡ c.loop-number.number = c.from_u32-node.ensures in
    least_of (IsNext c.args.next.now) c.from_u32-node.result (c.in_ok-found.ensures.0 c.if-found.true)
    (λ u l. c.loop-number.invariant u (omega (arith, l, is)))

pub loop-number-preserved : goal.loop-number-preserved
loop-number-preserved c =
    below_more (λ (v : ℕ). IsOnCycle (IsNext c.args.next.now) v → ⊥) c.loop-number.number c.loop-number.invariant
    (λ cycle. false≢true (sym c.if-found.false ∙ c.in_ok-found.ensures.1 (subst (IsOnCycle (IsNext c.args.next.now)) (sym c.from_u32-node.ensures) cycle)))

pub returns : goal.returns
returns c = λ v l. c.loop-number.invariant v (let t = c.loop-number-test.false in let e = c.len-number-end.ensures in let f = c.requires.few in omega (arith, t, e, f, l))
