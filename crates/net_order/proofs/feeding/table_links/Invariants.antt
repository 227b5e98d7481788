use Rattle.std.proofs.Common.{◌≡◌, ◌++◌, drop}
use Rattle.circuit.specs.Parts.{sources}
use Rattle.net_order.specs.Links.{links_from, links_with}
use Rattle.net_order.proofs.feeding.table_links.Given as goal

-- the links so far, with those of the rest, are all
abbrev pub invariant-loop-place : goal.invariant-loop-place
invariant-loop-place l = l.links.items ++ links_from l.parts l.feeds l.place (drop l.place (sources l.parts)) ≡ links_with l.parts l.feeds
