use Rattle.std.proofs.Common.{◌≡◌}
use Rattle.live_links.proofs.Opening.{AreFilled}
use Rattle.live_links.proofs.opened.fill.Given as goal

abbrev pub invariant-loop-number : goal.invariant-loop-number
invariant-loop-number l = record {
  filled : AreFilled l.rows l.opened.rows l.number;
  room : l.opened.room ≡ l.initial.opened.room;
}
