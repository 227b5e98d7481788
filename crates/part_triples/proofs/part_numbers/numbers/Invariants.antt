use Rattle.std.proofs.Common.{◌≡◌, ◌++◌, drop, map}
use Rattle.part_triples.specs.Places.{place_in}
use Rattle.part_triples.proofs.part_numbers.numbers.Given as goal

-- the numbers so far, and those of the parts that are left
abbrev pub invariant-loop-source : goal.invariant-loop-source
invariant-loop-source l = l.numbers.items ++ map (λ s. place_in l.places s.part.cell) (drop l.source-index l.sources) ≡ map (λ s. place_in l.places s.part.cell) l.sources
