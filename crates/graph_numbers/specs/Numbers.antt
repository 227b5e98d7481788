-- The muxes and arcs of a device by numbers alone, as a program gathers them: of each what can't be looked up elsewhere. (Our
-- own.)
use Rattle.std.specs.Prelude.{ℕ, List, filter_map, flat_map, Option, option_map}
use Rattle.std.specs.List.{enumerate_from}
use Rattle.records.specs.Database.{Arc, Mux}
use Rattle.records.specs.Grid.{Tile}
use Rattle.fabric.specs.Wires.{Wire}
use Rattle.fabric.specs.Device.{Device, database_at}
use Rattle.fabric.specs.GraphOf.{number_in}
use Rattle.graph_lists.specs.ArcLists.{ArcNumbers}
use Rattle.mux_rows.specs.MuxTable.{MuxNumbers}

-- a mux of a tile, by its place in the database, where its sink stands for a wire
abbrev pub mux_in : Device → List Wire → ℕ → Tile → ℕ → Mux → Option MuxNumbers
mux_in device wires number tile place mux = option_map (λ sink. record { tile = number; place = place; sink = sink }) (number_in wires device.profile.rules tile mux.sink)

abbrev pub tile_mux_numbers : Device → List Wire → ℕ → Tile → List MuxNumbers
tile_mux_numbers device wires number tile = filter_map (λ m. mux_in device wires number tile m.0 m.1) (enumerate_from 0 (database_at device.types tile).muxes)

-- the muxes of all tiles, by tile, then in file order
abbrev pub mux_numbers : Device → List Wire → List MuxNumbers
mux_numbers device wires = flat_map (λ t. tile_mux_numbers device wires t.0 t.1) (enumerate_from 0 device.grid.tiles)

-- an arc of a mux, by its place there, where its source stands for a wire
abbrev pub source_in : Device → List Wire → Tile → ℕ → ℕ → ℕ → Arc → Option ArcNumbers
source_in device wires tile number sink place arc = option_map (λ source. record { mux = number; place = place; source = source; sink = sink }) (number_in wires device.profile.rules tile arc.source)

-- the arcs of the mux of a number, which stands in a tile
abbrev pub mux_arc_numbers : Device → List Wire → Tile → ℕ → ℕ → Mux → List ArcNumbers
mux_arc_numbers device wires tile number sink mux = filter_map (λ a. source_in device wires tile number sink a.0 a.1) (enumerate_from 0 mux.arcs)
