use Rattle.std.proofs.Common.{◌≡◌, false, arith}
use Rattle.net_links.proofs.Listed.{each_member, met}
use Rattle.wire_contests.specs.Contests.{is_fed}
use Rattle.wire_links.proofs.drivers.first_fed.Goals as goal

pub is_fed-requires : goal.is_fed-requires
is_fed-requires c = c.requires.within c.x-item.result (met c.args.row.now c.loop-x.x-index c.x-item.result c.loop-x-test.true c.x-item.is)

pub returns-then-is_fed : goal.returns-then-is_fed
returns-then-is_fed c = (met c.args.row.now c.loop-x.x-index c.x-item.result c.loop-x-test.true c.x-item.is, (let e = c.is_fed.ensures in let t = c.if-is_fed.true in cc))

pub returns : goal.returns
returns c = each_member (λ x. is_fed c.args.feeds.now x ≡ false) c.args.row.now (λ k l. c.loop-x.invariant k (let t = c.loop-x-test.false in omega arith))
