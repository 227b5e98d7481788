use Rattle.std.proofs.Common.{◌+◌, ◌-◌, ◌≤◌, length, max}
use Rattle.wire_links.specs.Found.{Finds}
use Rattle.wire_links.proofs.reached.find_all.Given as goal

abbrev pub invariant-walk : goal.invariant-walk
invariant-walk l = record {
  finds : Finds l.next l.fn.w l.found.keys l.at;
  at : l.at ≤ length l.found.keys;
}

abbrev pub decreases-walk : goal.decreases-walk
decreases-walk l = max (length l.next) (l.fn.w + 1) - l.at
