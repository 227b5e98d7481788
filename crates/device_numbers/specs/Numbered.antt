-- A device whose wires have numbers, as a program keeps it. (Our own.)
use Rattle.std.specs.Prelude.{◌≡◌, ℕ, List, [], drop, map, flat_map, Option, option_map, slice_get}
use Rattle.std.specs.Option.{option_map_or}
use Rattle.std.specs.List.{enumerate_from}
use Rattle.fabric.specs.Wires.{Wire, wire_cmp}
use Rattle.fabric.specs.InOrder.{InOrderOnce}
use Rattle.records.specs.Grid.{Tile}
use Rattle.fabric.specs.Device.{Device, database_at}
use Rattle.device_wires.specs.Named.{named_wires}
use Rattle.tile_types.specs.Types.{Types, AreTypesOf, slot_names}
use Rattle.slot_wires.specs.Numbers.{slot_numbers}
use Rattle.graph_lists.specs.ArcLists.{ArcNumbers}
use Rattle.mux_rows.specs.MuxTable.{MuxNumbers}
use Rattle.graph_numbers.specs.Numbers.{tile_mux_numbers, mux_arc_numbers}
use Rattle.tile_parts.specs.Slots.{MuxSlots, mux_slots}
use Rattle.type_shapes.specs.Shapes.{type_shapes}

-- a device with its wires in wire order
pub record Numbered : Type 0 where
  pub device : Device
  pub wires : List Wire

-- what is kept beside it: the types of its tiles, the numbers of their slots' wires, and the muxes of types by slots
pub record IsNumbered (device : Device) (wires : List Wire) (types : Types) (slots : List (List (Option ℕ))) (shapes : List (List MuxSlots)) : Type 0 where
  pub wires_named : InOrderOnce wire_cmp (named_wires device) wires
  pub types_are : AreTypesOf device types
  pub slots_are : slots ≡ map (slot_numbers device wires) device.grid.tiles
  pub shapes_are : shapes ≡ map type_shapes types.types

-- the row of wires of the tile of a number, and the muxes of its type by slots; none where there is no such tile
abbrev pub row_at : Numbered → ℕ → List (Option ℕ)
row_at n tile = option_map_or (slot_numbers n.device n.wires) (slice_get n.device.grid.tiles tile) []

abbrev pub shape_in : Device → Tile → List MuxSlots
shape_in device tile = map (mux_slots (slot_names device tile)) (database_at device.types tile).muxes

abbrev pub shape_at : Numbered → ℕ → List MuxSlots
shape_at n tile = option_map_or (shape_in n.device) (slice_get n.device.grid.tiles tile) []

-- the muxes of the tile of a number; none where there is no such tile
abbrev pub muxes_at : Numbered → ℕ → List MuxNumbers
muxes_at n tile = option_map_or (tile_mux_numbers n.device n.wires tile) (slice_get n.device.grid.tiles tile) []

-- the muxes of the tiles from a number on
abbrev pub muxes_from : Numbered → ℕ → List MuxNumbers
muxes_from n tile = flat_map (λ t. tile_mux_numbers n.device n.wires t.0 t.1) (enumerate_from tile (drop tile n.device.grid.tiles))

-- the slots of the sources of a mux by numbers
abbrev pub sources_at : Numbered → MuxNumbers → Option (List (Option ℕ))
sources_at n m = option_map (λ s. s.sources) (slice_get (shape_at n m.tile) m.place)

-- the arcs of a mux by numbers, under the number of the mux; none where there is no such mux
abbrev pub arcs_at : Numbered → ℕ → MuxNumbers → List ArcNumbers
arcs_at n number m =
    option_map_or (λ tile. option_map_or (mux_arc_numbers n.device n.wires tile number m.sink) (slice_get (database_at n.device.types tile).muxes m.place) []) (slice_get n.device.grid.tiles m.tile) []

-- the arcs of muxes, of which the first has a number
abbrev pub arcs_from : Numbered → ℕ → List MuxNumbers → List ArcNumbers
arcs_from n number muxes = flat_map (λ m. arcs_at n m.0 m.1) (enumerate_from number muxes)
