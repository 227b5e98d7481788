use Rattle.std.proofs.Common.{refl, arith, ◌∙◌}
use Rattle.net_links.proofs.Listed.{met}
use Rattle.cycle_order.proofs.Trying.{tries_all, tries_more, tries_none}
use Rattle.cycle_order.proofs.in_turn.try_all.Goals as goal

pub loop-node-init : goal.loop-node-init
loop-node-init c = record { count = refl; tries = tries_none c.args.before.now c.args.listed.now.nodes c.args.row.now }

pub try_one-requires-clause-known : goal.try_one-requires-clause-known
try_one-requires-clause-known c = c.requires.known c.node-item.result (met c.args.row.now c.loop-node.node-index c.node-item.result c.loop-node-test.true c.node-item.is)

pub loop-node-preserved : goal.loop-node-preserved
loop-node-preserved c = record {
  count = c.in_ok-try_one.ensures.count ∙ c.loop-node.invariant.count;
  tries = tries_more c.args.before.now c.args.listed.now.nodes c.args.row.now c.loop-node.node-index c.loop-node.listed.nodes c.node-item.result c.try_one.new.listed.nodes
      c.loop-node.invariant.tries c.loop-node-test.true c.node-item.is c.in_ok-try_one.ensures.tries;
}

pub returns-clause-tries : goal.returns-clause-tries
returns-clause-tries c =
    tries_all c.args.before.now c.args.listed.now.nodes c.args.row.now c.loop-node.node-index c.loop-node.listed.nodes (let t = c.loop-node-test.false in omega arith) c.loop-node.invariant.tries
