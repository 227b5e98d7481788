use Rattle.std.proofs.Common.{◌≡◌, ◌+◌, ℕ, List, [], Some, None, length, get_or}
use Rattle.wire_feeds.specs.Walks.{Walk, open_count}
use Rattle.wire_feeds.proofs.Spreading.{SpreadTo}
use Rattle.wire_feeds.proofs.walk.spread.Given as goal

abbrev pub invariant-loop-w : goal.invariant-loop-w
invariant-loop-w l = record {
  long : length l.feeds ≡ length l.initial.feeds;
  count : open_count l.feeds + length l.waiting.items ≡ open_count l.initial.feeds + length l.initial.waiting.items;
  to : (rows : List (List ℕ)) (outputs : List ℕ) (from : ℕ) → get_or rows from [] ≡ l.row → get_or l.initial.feeds from None ≡ Some l.feed
      → Walk rows outputs from l.initial.feeds l.initial.waiting.items → SpreadTo rows outputs l.row from l.feed l.w-index l.feeds l.waiting.items;
}
