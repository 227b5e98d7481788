use Rattle.std.proofs.Common.{◌≡◌, drop, map}
use Rattle.json_forms.specs.Grid.{extent_of, places_of}
use Rattle.tile_grid.proofs.Extents.{extent_behind}
use Rattle.tile_grid.proofs.grid.extents.Given as goal

-- the extents so far, and the places that are left
abbrev pub invariant-loop-tile : goal.invariant-loop-tile
invariant-loop-tile l = record {
  height : extent_behind l.height (map (λ place. place.0) (places_of (drop l.tile-index l.tiles))) ≡ extent_of (map (λ place. place.0) (places_of l.tiles));
  width : extent_behind l.width (map (λ place. place.1) (places_of (drop l.tile-index l.tiles))) ≡ extent_of (map (λ place. place.1) (places_of l.tiles));
}
