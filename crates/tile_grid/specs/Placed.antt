-- A tile and its place.
use Rattle.std.specs.Prelude.{ℕ, Option, Some, None, if◌then◌else◌}
use Rattle.records.specs.Grid.{Tile}
use Rattle.json_forms.specs.Tiles.{place_fits}

-- the tile at a place
abbrev pub with_place : Option (ℕ × ℕ) → Tile → Tile
with_place place tile = record tile { place = place }

-- a place that a grid may have
abbrev pub place_if_fits : Option (ℕ × ℕ) → Option (Option (ℕ × ℕ))
place_if_fits place = if place_fits place then Some place else None
