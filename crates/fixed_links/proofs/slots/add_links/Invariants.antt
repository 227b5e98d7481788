use Rattle.std.proofs.Common.{◌≡◌, ◌++◌, drop}
use Rattle.fixed_links.specs.Slots.{links_in}
use Rattle.fixed_links.proofs.slots.add_links.Given as goal

-- the links so far, and what is left
abbrev pub invariant-loop-connection : goal.invariant-loop-connection
invariant-loop-connection l = l.links.items ++ links_in l.row (drop l.connection-index l.fixed) ≡ l.fn.links.items ++ links_in l.row l.fixed
