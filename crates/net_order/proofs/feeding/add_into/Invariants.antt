use Rattle.std.proofs.Common.{◌≡◌, ◌++◌, drop}
use Rattle.net_order.specs.Links.{links_into}
use Rattle.net_order.proofs.feeding.add_into.Given as goal

-- the links so far, with those of the rest, are all
abbrev pub invariant-loop-feed : goal.invariant-loop-feed
invariant-loop-feed l = l.links.items ++ links_into l.table (drop l.feed-index l.feeds) ≡ l.initial.links.items ++ links_into l.table l.feeds
