use Rattle.std.proofs.Common.{arith}
use Rattle.live_links.proofs.Opening.{filled_all}
use Rattle.live_links.proofs.opened.fill.Goals as goal

pub returns-clause-rows : goal.returns-clause-rows
returns-clause-rows c =
    filled_all c.args.rows.now c.loop-number.opened.rows c.loop-number.number c.loop-number.invariant.filled (let t = c.loop-number-test.false in let e = c.len-number-end.ensures in omega arith)
