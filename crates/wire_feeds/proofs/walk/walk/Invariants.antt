use Rattle.std.proofs.Common.{◌+◌, length}
use Rattle.wire_feeds.specs.Walks.{Walk, open_count}
use Rattle.wire_feeds.proofs.walk.walk.Given as goal

abbrev pub invariant-walk : goal.invariant-walk
invariant-walk l = Walk l.next l.fn.outputs (length l.next) l.feeds l.waiting.items

abbrev pub decreases-walk : goal.decreases-walk
decreases-walk l = open_count l.feeds + length l.waiting.items
