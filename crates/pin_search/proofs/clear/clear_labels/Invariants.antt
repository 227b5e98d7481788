use Rattle.pin_search.specs.Labels.{far}
use Rattle.pin_search.proofs.Clearing.{ClearTo}
use Rattle.pin_search.proofs.clear.clear_labels.Given as goal

abbrev pub invariant-loop-w : goal.invariant-loop-w
invariant-loop-w l = ClearTo 0 far l.touched l.fn.labels l.w-index l.labels
