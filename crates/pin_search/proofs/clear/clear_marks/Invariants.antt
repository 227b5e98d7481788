use Rattle.std.proofs.Common.{false}
use Rattle.pin_search.proofs.Clearing.{ClearTo}
use Rattle.pin_search.proofs.clear.clear_marks.Given as goal

abbrev pub invariant-loop-w : goal.invariant-loop-w
invariant-loop-w l = ClearTo false false l.touched l.fn.marks l.w-index l.marks
