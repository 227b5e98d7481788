-- The device bits of the muxes of a database, and moved to a tile. (Our own.)
use Rattle.std.specs.Prelude.{◌+◌, ℕ, Bool, List, [], ◌∷◌, map, flat_map, Option, option_map, option_and_then, slice_get, if◌then◌else◌}
use Rattle.std.specs.Option.{option_map_or}
use Rattle.std.specs.List.{enumerate_from}
use Rattle.std.specs.BTreeSet.{insert_key}
use Rattle.patterns.specs.Bits.{DeviceBit, PatternBit}
use Rattle.records.specs.Database.{Arc, Mux}
use Rattle.records.specs.Grid.{Tile, origin_of}
use Rattle.records.specs.Profile.{Rules}
use Rattle.fabric.specs.Device.{Device, database_at}
use Rattle.fabric.specs.WireOfName.{begins_with_one}
use Rattle.fabric.specs.MuxBits.{bit_cmp}
use Rattle.mux_rows.specs.MuxTable.{MuxNumbers}
use Rattle.bit_rows.specs.MuxBits.{MuxBit}

-- the name is one of a wire of another chip
abbrev pub is_ignored : Rules → List ℕ → Bool
is_ignored rules name = begins_with_one rules.other_chips name

-- where a bit of a pattern stands, counted from its tile's bit F0B0, whether it must be 1 or 0
abbrev pub place_bit : PatternBit → DeviceBit
place_bit p = record { frame = p.frame; bit = p.bit }

-- the device bit of such a place, in a tile whose bit F0B0 is `origin`
abbrev pub moved : DeviceBit → DeviceBit → DeviceBit
moved origin b = record { frame = origin.frame + b.frame; bit = origin.bit + b.bit }

-- those of an arc; none where its source is ignored, since there is no such arc then
abbrev pub arc_bits : Rules → Arc → List DeviceBit
arc_bits rules arc = if is_ignored rules arc.source then [] else map place_bit arc.bits

-- bits in bit order, each once, with more bits put in
abbrev pub put_in : List DeviceBit → List DeviceBit → List DeviceBit
put_in bits [] = bits
put_in bits (b ∷ more) = put_in (insert_key bit_cmp bits b) more

-- the bits of a mux in bit order, each once
abbrev pub kept_bits : Rules → Mux → List DeviceBit
kept_bits rules mux = put_in [] (flat_map (arc_bits rules) mux.arcs)

-- the bits of the mux at a place of the database of a tile, from the tile's bit F0B0 on
abbrev pub bits_in : Device → ℕ → Tile → Option (List DeviceBit)
bits_in device place tile = option_map (kept_bits device.profile.rules) (slice_get (database_at device.types tile).muxes place)

-- the same in the tile of a number
abbrev pub bits_at : Device → ℕ → ℕ → Option (List DeviceBit)
bits_at device tile place = option_and_then (bits_in device place) (slice_get device.grid.tiles tile)

-- a mux with each of some bits in its tile
abbrev pub pairs_in : ℕ → Tile → List DeviceBit → List MuxBit
pairs_in number tile bits = map (λ b. record { mux = number; bit = moved (origin_of tile) b }) bits

-- a mux by numbers with each of its device bits; none where there is no such mux
abbrev pub mux_pairs : Device → ℕ → MuxNumbers → List MuxBit
mux_pairs device number m = option_map_or (λ t. option_map_or (pairs_in number t) (bits_at device m.tile m.place) []) (slice_get device.grid.tiles m.tile) []

-- those of muxes, of which the first has a number
abbrev pub pairs_from : Device → ℕ → List MuxNumbers → List MuxBit
pairs_from device number muxes = flat_map (λ m. mux_pairs device m.0 m.1) (enumerate_from number muxes)
