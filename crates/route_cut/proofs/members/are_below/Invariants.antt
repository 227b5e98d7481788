use Rattle.std.proofs.Common.{ℕ, ◌<◌, get_or}
use Rattle.route_cut.proofs.members.are_below.Given as goal

abbrev pub invariant-loop-w : goal.invariant-loop-w
invariant-loop-w l = (k : ℕ) → k < l.w-index → get_or l.wires k 0 < l.count
