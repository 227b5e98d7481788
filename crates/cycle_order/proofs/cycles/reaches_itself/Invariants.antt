use Rattle.std.proofs.Common.{◌≡◌, ◌≤◌, ◌-◌, length}
use Rattle.cycle_order.proofs.Listing.{Reached}
use Rattle.cycle_order.proofs.cycles.reaches_itself.Given as goal

abbrev pub invariant-walk : goal.invariant-walk
invariant-walk l = record {
  count : l.listed.count ≡ length l.next;
  at : l.at ≤ length l.listed.nodes;
  reached : Reached l.next l.fn.node l.listed.nodes l.at;
}

abbrev pub decreases-walk : goal.decreases-walk
decreases-walk l = length l.next - l.at
