use Rattle.std.proofs.Common.{◌<◌, arith}
use Rattle.net_links.proofs.Listed.{all_hold, one_fails}
use Rattle.route_cut.proofs.members.are_below.Goals as goal

pub returns-then-to_u32-count : goal.returns-then-to_u32-count
returns-then-to_u32-count c = one_fails (λ w. w < c.args.count) c.args.wires.now c.loop-w.w-index c.w-item.result c.loop-w-test.true c.w-item.is (λ h. let e = c.to_u32.ensures in let f = c.if-to_u32-count.true in omega arith)

pub returns : goal.returns
returns c = all_hold (λ w. w < c.args.count) c.args.wires.now c.loop-w.w-index (omega arith) c.loop-w.invariant
