-- What muxes and arcs by numbers stand for. (Our own.)
use Rattle.std.specs.Prelude.{ℕ, List, [], flat_map, Option, option_map, option_and_then, slice_get}
use Rattle.std.specs.Option.{option_map_or}
use Rattle.std.specs.List.{enumerate_from}
use Rattle.records.specs.Grid.{Tile, origin_of}
use Rattle.fabric.specs.Wires.{Wire}
use Rattle.fabric.specs.Device.{Device, database_at}
use Rattle.fabric.specs.Graph.{GraphMux, GraphArc}
use Rattle.graph_lists.specs.ArcLists.{ArcNumbers}
use Rattle.mux_rows.specs.MuxTable.{MuxNumbers}
use Rattle.graph_numbers.specs.Numbers.{mux_arc_numbers}

-- the mux that numbers stand for, in a tile
abbrev pub mux_at : Device → MuxNumbers → Tile → Option GraphMux
mux_at device m tile = option_map (λ mux. record { tile = m.tile; origin = origin_of tile; sink = m.sink; mux = mux }) (slice_get (database_at device.types tile).muxes m.place)

abbrev pub mux_of : Device → MuxNumbers → Option GraphMux
mux_of device m = option_and_then (mux_at device m) (slice_get device.grid.tiles m.tile)

-- the arc that numbers stand for, in a list of muxes
abbrev pub arc_at : ArcNumbers → GraphMux → Option GraphArc
arc_at a m = option_map (λ arc. record { mux = a.mux; place = a.place; source = a.source; sink = a.sink; origin = m.origin; arc = arc }) (slice_get m.mux.arcs a.place)

abbrev pub arc_of : List GraphMux → ArcNumbers → Option GraphArc
arc_of muxes a = option_and_then (arc_at a) (slice_get muxes a.mux)

-- the arcs of a mux that is known by its number, and those of all muxes, by mux, then in file order
abbrev pub arcs_of_known : Device → List Wire → ℕ → GraphMux → List ArcNumbers
arcs_of_known device wires number m = option_map_or (λ tile. mux_arc_numbers device wires tile number m.sink m.mux) (slice_get device.grid.tiles m.tile) []

abbrev pub arc_numbers : Device → List Wire → List GraphMux → List ArcNumbers
arc_numbers device wires muxes = flat_map (λ m. arcs_of_known device wires m.0 m.1) (enumerate_from 0 muxes)
