-- What is proved of muxes and arcs by slots.
use Rattle.std.specs.Prelude.{◌≡◌, ℕ, List, map, Some}
use Rattle.words.specs.Members.{In}
use Rattle.records.specs.Database.{Mux}
use Rattle.records.specs.Grid.{Tile}
use Rattle.fabric.specs.Wires.{Wire}
use Rattle.fabric.specs.Device.{Device, database_at}
use Rattle.fabric.specs.GraphOf.{number_in}
use Rattle.tile_types.specs.Types.{slot_names}
use Rattle.slot_wires.specs.Numbers.{slot_numbers}
use Rattle.graph_numbers.specs.Numbers.{tile_mux_numbers, mux_arc_numbers}
use Rattle.tile_parts.specs.Slots.{mux_slots, muxes_in, arcs_in}

-- The muxes of a tile by the slots of its type are its muxes by numbers.
abbrev pub MuxesAreOfTile : Type 0
MuxesAreOfTile = (device : Device) (wires : List Wire) (tile : Tile) (number : ℕ)
    → muxes_in number (slot_numbers device wires tile) (map (mux_slots (slot_names device tile)) (database_at device.types tile).muxes) ≡ tile_mux_numbers device wires number tile

-- The arcs of a mux by slots, where its sink has a wire, are its arcs by numbers.
abbrev pub ArcsAreOfMux : Type 0
ArcsAreOfMux = (device : Device) (wires : List Wire) (tile : Tile) (number sink : ℕ) (mux : Mux) → In (database_at device.types tile).muxes mux
    → number_in wires device.profile.rules tile mux.sink ≡ Some sink
    → arcs_in (slot_numbers device wires tile) number sink (mux_slots (slot_names device tile) mux).sources ≡ mux_arc_numbers device wires tile number sink mux
