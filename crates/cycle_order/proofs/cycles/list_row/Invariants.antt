use Rattle.std.proofs.Common.{◌≡◌}
use Rattle.cycle_order.proofs.Listing.{ListsSome}
use Rattle.cycle_order.proofs.cycles.list_row.Given as goal

abbrev pub invariant-loop-node : goal.invariant-loop-node
invariant-loop-node l = record {
  count : l.listed.count ≡ l.initial.listed.count;
  lists : ListsSome l.initial.listed.nodes l.row l.node-index l.listed.nodes;
}
