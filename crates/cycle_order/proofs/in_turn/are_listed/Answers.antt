use Rattle.std.proofs.Common.{arith}
use Rattle.std.proofs.lemmas.Bool.{false≢true}
use Rattle.words.specs.Members.{In}
use Rattle.net_links.proofs.Listed.{each_member, met}
use Rattle.cycle_order.proofs.in_turn.are_listed.Goals as goal

pub contains-requires : goal.contains-requires
contains-requires c = c.requires c.node-item.result (met c.args.row.now c.loop-node.node-index c.node-item.result c.loop-node-test.true c.node-item.is)

pub returns-then-not-contains-clause-no : goal.returns-then-not-contains-clause-no
returns-then-not-contains-clause-no c = λ e.
    (c.node-item.result, (met c.args.row.now c.loop-node.node-index c.node-item.result c.loop-node-test.true c.node-item.is, λ i. false≢true (c.if-not-contains.ensures.1 i)))

pub returns-clause-yes : goal.returns-clause-yes
returns-clause-yes c = λ e.
    each_member (In c.args.listed.now.nodes) c.args.row.now (λ k l. c.loop-node.invariant k (let t = c.loop-node-test.false in omega arith))
