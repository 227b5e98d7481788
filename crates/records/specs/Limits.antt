-- The quantities that have a limit, how each is printed, and every limit. (Our own.)
use Rattle.std.specs.Prelude.{ℕ, ◌-◌, ◌*◌, ◌^◌, List, codes}

pub data Limit : Type 0 where
  Tiles : Limit
  Types : Limit
  Place : Limit
  PatternBits : Limit
  Slices : Limit
  Pads : Limit
  Parts : Limit
  Wires : Limit
  Muxes : Limit
  Arcs : Limit

-- how a limit is printed
abbrev pub limit_name : Limit → List ℕ
limit_name Tiles = codes "tiles"
limit_name Types = codes "types"
limit_name Place = codes "place"
limit_name PatternBits = codes "pattern"
limit_name Slices = codes "slices"
limit_name Pads = codes "pads"
limit_name Parts = codes "parts"
limit_name Wires = codes "wires"
limit_name Muxes = codes "muxes"
limit_name Arcs = codes "arcs"

-- ---- bytes of files

abbrev pub mebibytes : ℕ → ℕ
mebibytes n = n * 1024 * 1024

-- the most bytes of a configuration; of a grid, a profile and a side file; of a database
abbrev pub most_config_bytes : ℕ
most_config_bytes = mebibytes 256

abbrev pub most_json_bytes : ℕ
most_json_bytes = mebibytes 64

abbrev pub most_database_bytes : ℕ
most_database_bytes = mebibytes 16

-- ---- what files hold

-- the most tiles of a grid, and sections of a configuration
abbrev pub most_tiles : ℕ
most_tiles = 65536

-- the most types of tiles
abbrev pub most_types : ℕ
most_types = 512

-- the greatest row and column of a tile
abbrev pub most_in_place : ℕ
most_in_place = 255

-- the greatest `cols`, `rows`, `start_frame` and `start_bit` of a tile, so that each part of a device bit is below 2 ^ 32
abbrev pub most_in_tile : ℕ
most_in_tile = 2 ^ 31 - 1

-- the greatest distance in a relative name
abbrev pub most_distance : ℕ
most_distance = 255

-- the most bits of a pattern
abbrev pub most_pattern_bits : ℕ
most_pattern_bits = 32

-- the most tables of a slice kind, and the most registers
abbrev pub most_parts : ℕ
most_parts = 8

-- the most slices and the most pads of a side file
abbrev pub most_slices : ℕ
most_slices = 262144

abbrev pub most_pads : ℕ
most_pads = 65536

-- ---- the graph

abbrev pub most_wires : ℕ
most_wires = 16777216

abbrev pub most_muxes : ℕ
most_muxes = 2 ^ 23

abbrev pub most_arcs : ℕ
most_arcs = 2 ^ 25

-- ---- the words of commands

-- the most attempts of `harden`
abbrev pub most_rounds : ℕ
most_rounds = 256

-- the most blocks of `run`
abbrev pub most_blocks : ℕ
most_blocks = 2048
