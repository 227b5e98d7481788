-- The bits of the muxes of each type of a device's tiles. (Our own.)
use Rattle.std.specs.Prelude.{ℕ, List, [], map, Option, option_and_then, slice_get}
use Rattle.std.specs.Option.{option_map_or}
use Rattle.patterns.specs.Bits.{DeviceBit}
use Rattle.records.specs.Profile.{Rules}
use Rattle.fabric.specs.Device.{Device}
use Rattle.name_numbers.specs.Numbers.{each_once}
use Rattle.record_laws.specs.KeptBits.{kept_bits}
use Rattle.tile_types.specs.Slots.{TypeSlots}
use Rattle.tile_types.specs.Types.{Types, types_of}

-- those of a type; one without a database has none
abbrev pub type_bits : Rules → TypeSlots → List (List DeviceBit)
type_bits rules t = map (kept_bits rules) (option_map_or (λ db. db.muxes) t.db [])

-- those of the types of a device, in order of first use of the types
abbrev pub device_bits : Device → List (List (List DeviceBit))
device_bits device = map (type_bits device.profile.rules) (types_of device (each_once [] (map (λ tile. tile.kind) device.grid.tiles)))

-- of bits by types, those of the mux at a place of the database of the tile of a number
abbrev pub kept_at : List (List (List DeviceBit)) → Types → ℕ → ℕ → Option (List DeviceBit)
kept_at bits types tile place = option_and_then (λ n. option_and_then (λ muxes. slice_get muxes place) (slice_get bits n)) (slice_get types.tiles tile)
