use Rattle.std.proofs.Common.{◌≡◌, take}
use Rattle.pin_feeds.proofs.feeds.same.Given as goal

-- the lists are equal so far
abbrev pub invariant-loop-i : goal.invariant-loop-i
invariant-loop-i l = take l.i l.a ≡ take l.i l.b
