use Rattle.std.proofs.Common.{◌≡◌, ◌<◌, ◌^◌, ◌++◌, drop}
use Rattle.std.specs.Prelude.{sum}
use Rattle.live_links.specs.Opened.{rooms_of}
use Rattle.live_links.proofs.opened.rooms.Given as goal

abbrev pub invariant-loop-number : goal.invariant-loop-number
invariant-loop-number l = record {
  made : l.rooms.items ++ rooms_of (drop l.number l.rows) (drop l.number l.more) ≡ rooms_of l.rows l.more;
  total : sum l.rooms.items ≡ l.total;
  fits : l.total < 2 ^ 32;
}
