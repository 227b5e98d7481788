use Rattle.std.proofs.Common.{length}
use Rattle.wire_feeds.proofs.Beginning.{Begun}
use Rattle.wire_feeds.proofs.walk.begin.Given as goal

abbrev pub invariant-loop-c : goal.invariant-loop-c
invariant-loop-c l = Begun l.outputs (length l.fn.feeds) l.c-index l.feeds l.waiting.items
