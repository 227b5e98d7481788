use Rattle.std.proofs.Common.{map, take}
use Rattle.database_names.specs.Places.{HoldsPlaces}
use Rattle.tile_names.proofs.names.numbers_of.Given as goal

-- the numbers of the tiles so far
abbrev pub invariant-loop-number : goal.invariant-loop-number
invariant-loop-number l = HoldsPlaces (map (λ t. t.name) (take l.number l.grid.tiles)) l.numbers
