use Rattle.std.proofs.Common.{map, take}
use Rattle.part_triples.specs.Places.{HoldsPlaces}
use Rattle.part_triples.proofs.places.places.Given as goal

-- the places of the names of the triples so far
abbrev pub invariant-loop-place : goal.invariant-loop-place
invariant-loop-place l = HoldsPlaces (map (λ t. t.now) (take l.place l.triples)) l.places
