-- A device: its grid, the databases of its tile types and the profile of its cells, and what they name in a
-- tile. (After Project Trellis, but for the profile, which is our own.)
use Rattle.std.specs.Prelude.{ℕ, List, [], ◌∷◌, ◌++◌, map, find, filter, flat_map, option_to_list}
use Rattle.std.specs.Option.{option_map_or}
use Rattle.std.specs.Str.{bytes_eq}
use Rattle.records.specs.Database.{Fixed, TileDb}
use Rattle.records.specs.Grid.{Tile, Grid}
use Rattle.records.specs.Profile.{Take, TakeWire, TakeNotWire, Choice, SliceKind, PadKind, Profile}

-- the database of a tile type
pub record TypeDb : Type 0 where
  pub kind : List ℕ
  pub db : TileDb

-- a device as its files describe it: its grid, the databases of its tile types, and the profile of its cells
pub record Device : Type 0 where
  pub grid : Grid
  pub types : List TypeDb
  pub profile : Profile

-- the database of a tile; a type without one has no records
abbrev pub database_at : List TypeDb → Tile → TileDb
database_at types tile = option_map_or (λ t. t.db) (find (λ t. bytes_eq t.kind tile.kind) types) (record { muxes = []; words = []; enums = []; fixed = [] })

-- the slice kinds and the pad kinds that have a site in a tile
abbrev pub slices_at : Device → Tile → List SliceKind
slices_at device tile = filter (λ k. bytes_eq k.tile tile.kind) device.profile.slices

abbrev pub pads_at : Device → Tile → List PadKind
pads_at device tile = filter (λ k. bytes_eq k.tile tile.kind) device.profile.pads

-- a tile's fixed connections: those of its database and the joins of its type
abbrev pub fixed_at : Device → Tile → List Fixed
fixed_at device tile = (database_at device.types tile).fixed
    ++ map (λ j. record { sink = j.sink; source = j.source }) (filter (λ j. bytes_eq j.tile tile.kind) device.profile.joins)

-- the names of cell outputs in a tile
abbrev pub output_names : Device → Tile → List (List ℕ)
output_names device tile =
    flat_map (λ k. map (λ t. t.out) k.tables ++ map (λ r. r.out) k.registers) (slices_at device tile)
    ++ flat_map (λ k. option_to_list k.in_wire) (pads_at device tile)

abbrev pub taken_name : Take → List (List ℕ)
taken_name (TakeWire name) = name ∷ []
taken_name (TakeNotWire name) = name ∷ []
taken_name _ = []

-- the names that a choice may take
abbrev pub choice_names : Choice → List (List ℕ)
choice_names choice = flat_map (λ c. taken_name c.take) choice.cases

-- the names of cell inputs in a tile: pins of tables, what registers may take, and the `out` wires of pads
abbrev pub input_names : Device → Tile → List (List ℕ)
input_names device tile =
    flat_map (λ k. flat_map (λ t. t.pins) k.tables
    ++ flat_map (λ r. choice_names r.input ++ choice_names r.enable ++ choice_names r.reset ++ choice_names r.clock) k.registers) (slices_at device tile)
    ++ flat_map (λ k. option_to_list k.out_wire) (pads_at device tile)
