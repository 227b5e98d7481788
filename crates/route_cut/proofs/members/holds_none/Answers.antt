use Rattle.std.proofs.Common.{arith}
use Rattle.words.specs.Members.{In}
use Rattle.net_links.proofs.Listed.{all_hold, one_fails}
use Rattle.route_cut.proofs.members.holds_none.Goals as goal

pub returns-then-is_in : goal.returns-then-is_in
returns-then-is_in c = one_fails (λ w. In c.args.wires.now w → ⊥) c.args.others.now c.loop-w.w-index c.w-item.result c.loop-w-test.true c.w-item.is (λ n. n (c.is_in.ensures.0 c.if-is_in.true))

pub returns : goal.returns
returns c = all_hold (λ w. In c.args.wires.now w → ⊥) c.args.others.now c.loop-w.w-index (omega arith) c.loop-w.invariant
