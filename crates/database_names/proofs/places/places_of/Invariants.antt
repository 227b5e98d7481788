use Rattle.std.proofs.Common.{map, take}
use Rattle.database_names.specs.Places.{HoldsPlaces}
use Rattle.database_names.proofs.places.places_of.Given as goal

-- the places of the records so far
abbrev pub invariant-loop-place : goal.invariant-loop-place
invariant-loop-place g l = HoldsPlaces (map g.T.Named.named (take l.place l.items)) l.places
