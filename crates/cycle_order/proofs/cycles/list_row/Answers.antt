use Rattle.std.proofs.Common.{ℕ, ◌<◌, refl, subst, sym, arith, ◌∙◌}
use Rattle.net_links.proofs.Listed.{met}
use Rattle.cycle_order.proofs.Listing.{lists_all, lists_more, lists_none}
use Rattle.cycle_order.proofs.cycles.list_row.Goals as goal

pub loop-node-init : goal.loop-node-init
loop-node-init c = record { count = refl; lists = lists_none c.args.listed.now.nodes c.args.row.now }

pub list_one-requires : goal.list_one-requires
list_one-requires c =
    subst (λ (n : ℕ). c.node-item.result < n) (sym c.loop-node.invariant.count)
    (c.requires c.node-item.result (met c.args.row.now c.loop-node.node-index c.node-item.result c.loop-node-test.true c.node-item.is))

pub loop-node-preserved : goal.loop-node-preserved
loop-node-preserved c = record {
  count = c.in_ok-list_one.ensures.count ∙ c.loop-node.invariant.count;
  lists = lists_more c.args.listed.now.nodes c.args.row.now c.loop-node.node-index c.loop-node.listed.nodes c.node-item.result c.list_one.new.listed.nodes
      c.loop-node.invariant.lists c.loop-node-test.true c.node-item.is c.in_ok-list_one.ensures.one;
}

pub returns-clause-row : goal.returns-clause-row
returns-clause-row c =
    lists_all c.args.listed.now.nodes c.args.row.now c.loop-node.node-index c.loop-node.listed.nodes (let t = c.loop-node-test.false in omega arith) c.loop-node.invariant.lists
