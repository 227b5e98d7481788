-- The numbers of the wires of slots. (Our own.)
use Rattle.std.specs.Prelude.{ℕ, List, map, slice_get, Option, option_and_then}
use Rattle.records.specs.Grid.{Tile}
use Rattle.fabric.specs.Wires.{Wire}
use Rattle.fabric.specs.Device.{Device}
use Rattle.fabric.specs.GraphOf.{number_in}
use Rattle.tile_types.specs.Types.{slot_names}

-- for each slot of a tile's type, the number of its wire in the tile
abbrev pub slot_numbers : Device → List Wire → Tile → List (Option ℕ)
slot_numbers device wires tile = map (number_in wires device.profile.rules tile) (slot_names device tile)

-- the number of a slot in the row of a tile
abbrev pub number_at : List (List (Option ℕ)) → ℕ → ℕ → Option ℕ
number_at rows tile slot = option_and_then (λ row. option_and_then (λ number. number) (slice_get row slot)) (slice_get rows tile)
