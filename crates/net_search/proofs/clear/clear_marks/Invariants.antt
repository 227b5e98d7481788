use Rattle.pin_search.proofs.Clearing.{ClearTo}
use Rattle.net_search.specs.declared.reach.Mark.TheVariants.{Far}
use Rattle.net_search.proofs.clear.clear_marks.Given as goal

abbrev pub invariant-loop-w : goal.invariant-loop-w
invariant-loop-w l = ClearTo Far Far l.wires l.fn.marks l.w-index l.marks
