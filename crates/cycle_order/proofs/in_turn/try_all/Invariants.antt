use Rattle.std.proofs.Common.{◌≡◌}
use Rattle.cycle_order.proofs.Trying.{TriesSome}
use Rattle.cycle_order.proofs.in_turn.try_all.Given as goal

abbrev pub invariant-loop-node : goal.invariant-loop-node
invariant-loop-node l = record {
  count : l.listed.count ≡ l.initial.listed.count;
  tries : TriesSome l.before l.initial.listed.nodes l.row l.node-index l.listed.nodes;
}
