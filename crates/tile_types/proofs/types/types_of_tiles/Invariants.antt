use Rattle.std.proofs.Common.{◌≡◌, [], map, take, slice_get, Some}
use Rattle.name_numbers.specs.Numbers.{each_once}
use Rattle.tile_types.specs.Types.{type_in, types_of}
use Rattle.tile_types.proofs.types.types_of_tiles.Given as goal

-- the types of the tiles so far, and each tile's
abbrev pub invariant-loop-tile : goal.invariant-loop-tile
invariant-loop-tile l = record {
  types : l.types.items ≡ types_of l.device l.kinds;
  kinds : l.kinds ≡ each_once [] (map (λ tile. tile.kind) (take l.tile-index l.tiles));
  numbers : map (slice_get (types_of l.device l.kinds)) l.of_tiles.items ≡ map (λ tile. Some (type_in l.device tile)) (take l.tile-index l.tiles);
}
