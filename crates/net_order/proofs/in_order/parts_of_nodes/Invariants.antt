use Rattle.std.proofs.Common.{◌≡◌, take}
use Rattle.net_order.proofs.in_order.parts_of_nodes.Given as goal

-- the nodes so far
abbrev pub invariant-loop-node : goal.invariant-loop-node
invariant-loop-node l = l.parts.items ≡ take l.node-index l.nodes
