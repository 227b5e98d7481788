use Rattle.std.proofs.Common.{◌≡◌, ◌≤◌, ◌-◌, length}
use Rattle.cycle_order.proofs.Trying.{InTurnTo}
use Rattle.cycle_order.proofs.in_turn.list_in_turn.Given as goal

abbrev pub invariant-walk : goal.invariant-walk
invariant-walk l = record {
  count : l.listed.count ≡ length l.before;
  at : l.at ≤ length l.listed.nodes;
  turn : InTurnTo l.before l.listed.nodes l.at;
}

abbrev pub decreases-walk : goal.decreases-walk
decreases-walk l = length l.before - l.at
