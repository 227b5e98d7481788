-- The types of the tiles of a device. (Our own.)
use Rattle.std.specs.Prelude.{◌≡◌, ℕ, List, [], map, slice_get, Option, Some, None, option_map, option_and_then}
use Rattle.records.specs.Grid.{Tile}
use Rattle.fabric.specs.Device.{Device}
use Rattle.device_names.specs.TileNames.{tile_names}
use Rattle.device_names.specs.Types.{type_named}
use Rattle.name_numbers.specs.Numbers.{each_once}
use Rattle.tile_types.specs.Slots.{TypeSlots}

-- the names that count in a tile, each once, in order of first use
abbrev pub slot_names : Device → Tile → List (List ℕ)
slot_names device tile = each_once [] (tile_names device tile)

-- the type of a tile
abbrev pub type_in : Device → Tile → TypeSlots
type_in device tile = record { rules = device.profile.rules; db = option_map (λ t. t.db) (type_named device.types tile.kind); names = slot_names device tile }

-- a tile of a type, of which nothing else is known
abbrev pub tile_of_kind : List ℕ → Tile
tile_of_kind kind = record { name = []; kind = kind; place = None; cols = 0; rows = 0; start_frame = 0; start_bit = 0 }

-- the types of these names
abbrev pub types_of : Device → List (List ℕ) → List TypeSlots
types_of device kinds = map (λ kind. type_in device (tile_of_kind kind)) kinds

-- types, and the number of the type of each tile
pub record Types : Type 0 where
  pub types : List TypeSlots
  pub tiles : List ℕ

-- the type of the tile of a number
abbrev pub type_of_tile : Types → ℕ → Option TypeSlots
type_of_tile t tile = option_and_then (slice_get t.types) (slice_get t.tiles tile)

-- the types of a device, one for each name of a type, in order of first use; each tile has the type of its name
pub record AreTypesOf (device : Device) (t : Types) : Type 0 where
  pub once : t.types ≡ types_of device (each_once [] (map (λ tile. tile.kind) device.grid.tiles))
  pub of_tiles : map (slice_get t.types) t.tiles ≡ map (λ tile. Some (type_in device tile)) device.grid.tiles
