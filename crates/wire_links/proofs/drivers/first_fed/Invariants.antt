use Rattle.std.proofs.Common.{◌≡◌, ℕ, ◌<◌, false, get_or}
use Rattle.wire_contests.specs.Contests.{is_fed}
use Rattle.wire_links.proofs.drivers.first_fed.Given as goal

-- no wire so far has a feed
abbrev pub invariant-loop-x : goal.invariant-loop-x
invariant-loop-x l = (k : ℕ) → k < l.x-index → is_fed l.feeds (get_or l.row k 0) ≡ false
