use Rattle.live_links.proofs.Opening.{IsRowFilled}
use Rattle.live_links.proofs.opened.fill_row.Given as goal

abbrev pub invariant-loop-x : goal.invariant-loop-x
invariant-loop-x l = IsRowFilled l.initial.opened l.opened l.w l.x-index l.row
