use Rattle.std.proofs.Common.{◌≡◌, ◌+◌, ◌-◌, ◌≤◌, ℕ, List, length, drop}
use Rattle.wire_feeds.specs.Walks.{Walk, open_count}
use Rattle.live_links.specs.Feeding.{cleared, waiting}
use Rattle.live_links.proofs.feeds.spread.Given as goal

abbrev pub invariant-walk : goal.invariant-walk
invariant-walk l = record {
  at : l.at ≤ length l.fed.items;
  long : length l.feeds ≡ length l.next.rows;
  undo : cleared l.fed.items l.feeds ≡ cleared l.initial.fed.items l.initial.feeds;
  walk : (outputs : List ℕ) → Walk l.next.rows outputs (length l.next.rows) l.initial.feeds (waiting l.fn.feed l.initial.fed.items)
      → Walk l.next.rows outputs (length l.next.rows) l.feeds (waiting l.fn.feed (drop l.at l.fed.items));
}

abbrev pub decreases-walk : goal.decreases-walk
decreases-walk l = (open_count l.feeds + length l.fed.items) - l.at
