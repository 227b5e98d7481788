use Rattle.std.proofs.Common.{ℕ, ◌<◌, get_or}
use Rattle.words.specs.Members.{In}
use Rattle.route_cut.proofs.members.holds_all.Given as goal

abbrev pub invariant-loop-w : goal.invariant-loop-w
invariant-loop-w l = (k : ℕ) → k < l.w-index → In l.wires (get_or l.others k 0)
