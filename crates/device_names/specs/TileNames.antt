-- The names that count in a tile, as they are written: what its wires are the wires of. They hang on its type alone.
-- (Our own.)
use Rattle.std.specs.Prelude.{ℕ, Bool, List, [], ◌∷◌, ◌++◌, ◌||◌, map, flat_map, if◌then◌else◌, Option, Some, None}
use Rattle.records.specs.Database.{Mux, Fixed, TileDb}
use Rattle.records.specs.Grid.{Tile}
use Rattle.records.specs.Profile.{Rules, Join, RegisterKind, SliceKind}
use Rattle.fabric.specs.Device.{Device, database_at, fixed_at, output_names, input_names, choice_names}
use Rattle.fabric.specs.WireOfName.{begins_with_one}

-- the name is one of a wire of another chip
abbrev pub is_ignored : Rules → List ℕ → Bool
is_ignored rules name = begins_with_one rules.other_chips name

-- those of a mux: its sink and its sources, or none where the sink is ignored
abbrev pub mux_names : Rules → Mux → List (List ℕ)
mux_names rules mux = if is_ignored rules mux.sink then [] else mux.sink ∷ map (λ arc. arc.source) mux.arcs

-- those of a fixed connection: both, or none where one is ignored
abbrev pub fixed_names : Rules → Fixed → List (List ℕ)
fixed_names rules fixed = if is_ignored rules fixed.sink || is_ignored rules fixed.source then [] else fixed.sink ∷ fixed.source ∷ []

-- those of the muxes and the fixed connections of a database
abbrev pub database_names : Rules → Option TileDb → List (List ℕ)
database_names rules None = []
database_names rules (Some db) = flat_map (mux_names rules) db.muxes ++ flat_map (fixed_names rules) db.fixed

-- names, or none where a test fails
abbrev pub names_if : Bool → List (List ℕ) → List (List ℕ)
names_if test names = if test then names else []

-- those of the muxes, the fixed connections and the joins of a tile
abbrev pub routing_names : Device → Tile → List (List ℕ)
routing_names device tile =
    flat_map (mux_names device.profile.rules) (database_at device.types tile).muxes
    ++ flat_map (fixed_names device.profile.rules) (fixed_at device tile)

-- those of a tile
abbrev pub tile_names : Device → Tile → List (List ℕ)
tile_names device tile = routing_names device tile ++ (output_names device tile ++ input_names device tile)

-- the outputs of a slice kind: of its tables, then of its registers
abbrev pub slice_outputs : SliceKind → List (List ℕ)
slice_outputs kind = map (λ t. t.out) kind.tables ++ map (λ r. r.out) kind.registers

-- what a register may take
abbrev pub register_inputs : RegisterKind → List (List ℕ)
register_inputs r = choice_names r.input ++ choice_names r.enable ++ choice_names r.reset ++ choice_names r.clock

-- the inputs of a slice kind: pins of tables, then what registers may take
abbrev pub slice_inputs : SliceKind → List (List ℕ)
slice_inputs kind = flat_map (λ t. t.pins) kind.tables ++ flat_map register_inputs kind.registers

-- a join as a fixed connection
abbrev pub joined : Join → Fixed
joined join = record { sink = join.sink; source = join.source }
