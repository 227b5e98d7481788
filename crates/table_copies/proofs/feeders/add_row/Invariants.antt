use Rattle.std.proofs.Common.{◌≡◌, map, take}
use Rattle.circuit.specs.Parts.{sources}
use Rattle.part_triples.specs.Numbers.{numbers_of}
use Rattle.table_copies.specs.Firsts.{gathered}
use Rattle.table_copies.proofs.feeders.add_row.Given as goal

-- those so far are put in
abbrev pub invariant-loop-feed : goal.invariant-loop-feed
invariant-loop-feed l = l.triples ≡ numbers_of l.side (sources l.parts)
    → map (λ s. s.part) l.feeders.items ≡ gathered l.side (sources l.parts) (map (λ s. s.part) l.initial.feeders.items) (take l.feed-index l.row)
