use Rattle.std.proofs.Common.{◌≡◌, ◌+◌, ◌≤◌, ℕ, List, [], Some, None, length, drop, get_or}
use Rattle.wire_feeds.specs.Walks.{Walk, open_count}
use Rattle.wire_feeds.proofs.Spreading.{SpreadTo}
use Rattle.live_links.specs.Feeding.{cleared, waiting}
use Rattle.live_links.proofs.feeds.spread_row.Given as goal

abbrev pub invariant-loop-w : goal.invariant-loop-w
invariant-loop-w l = record {
  long : length l.feeds ≡ length l.initial.feeds;
  count : open_count l.feeds + length l.fed.items ≡ open_count l.initial.feeds + length l.initial.fed.items;
  grows : length l.initial.fed.items ≤ length l.fed.items;
  undo : cleared l.fed.items l.feeds ≡ cleared l.initial.fed.items l.initial.feeds;
  to : (rows : List (List ℕ)) (outputs : List ℕ) (from at : ℕ) → at ≤ length l.initial.fed.items → get_or rows from [] ≡ l.row → get_or l.initial.feeds from None ≡ Some l.feed
      → Walk rows outputs from l.initial.feeds (waiting l.feed (drop at l.initial.fed.items)) → SpreadTo rows outputs l.row from l.feed l.w-index l.feeds (waiting l.feed (drop at l.fed.items));
}
