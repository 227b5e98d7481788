-- The wires that a tile names.
use Rattle.std.specs.Prelude.{List, ℕ, [], ◌∷◌, ◌++◌, filter_map, flat_map, Option, Some, None, option_and_then}
use Rattle.std.specs.Option.{option_map_or}
use Rattle.records.specs.Database.{Mux, Fixed}
use Rattle.records.specs.Grid.{Tile}
use Rattle.records.specs.Profile.{Rules}
use Rattle.fabric.specs.Wires.{Wire}
use Rattle.fabric.specs.WireNames.{WireName, Named, Ignored}
use Rattle.fabric.specs.WireOfName.{wire_of_name}
use Rattle.fabric.specs.Device.{Device, database_at, fixed_at, output_names, input_names}

abbrev pub named_wire : WireName → Option Wire
named_wire (Named wire) = Some wire
named_wire Ignored = None

-- The wire that a name stands for in a tile. A tile without a place has none, and neither has a name that is
-- ignored; a mux, an arc or a fixed connection that would need one doesn't exist.
abbrev pub wire_in : Rules → Tile → List ℕ → Option Wire
wire_in rules tile name = option_and_then (λ place. named_wire (wire_of_name place name rules)) tile.place

-- the wires of a mux: its sink and the sources of its arcs
abbrev pub mux_wires : Rules → Tile → Mux → List Wire
mux_wires rules tile mux = option_map_or (λ sink. sink ∷ filter_map (λ arc. wire_in rules tile arc.source) mux.arcs) (wire_in rules tile mux.sink) []

-- the wires of a fixed connection
abbrev pub fixed_wires : Rules → Tile → Fixed → List Wire
fixed_wires rules tile fixed =
    option_map_or (λ sink. option_map_or (λ source. sink ∷ source ∷ []) (wire_in rules tile fixed.source) []) (wire_in rules tile fixed.sink) []

-- the wires that a tile names: by muxes, fixed connections, joins and the kinds of the profile
abbrev pub tile_wires : Device → Tile → List Wire
tile_wires device tile =
    flat_map (mux_wires device.profile.rules tile) (database_at device.types tile).muxes
    ++ flat_map (fixed_wires device.profile.rules tile) (fixed_at device tile)
    ++ filter_map (wire_in device.profile.rules tile) (output_names device tile ++ input_names device tile)
