-- The graph of a device: which wires, muxes, arcs and fixed connections it has, in which order. (The orders are
-- our own.)
use Rattle.std.specs.Prelude.{◌≡◌, ℕ, List, [], map, position, filter_map, flat_map, Option, option_map, option_and_then, slice_get}
use Rattle.std.specs.declared.cmp.Ordering.{Ordering}
use Rattle.std.specs.Ordering.{nat_cmp, ordering_then}
use Rattle.std.specs.Option.{option_map_or}
use Rattle.std.specs.List.{enumerate_from}
use Rattle.records.specs.Database.{Arc, Fixed}
use Rattle.records.specs.Grid.{Tile, origin_of}
use Rattle.records.specs.Profile.{Rules}
use Rattle.links.specs.Links.{Link}
use Rattle.fabric.specs.InOrder.{InOrderOnce}
use Rattle.fabric.specs.Wires.{Wire, wire_cmp, same_wire}
use Rattle.fabric.specs.Settings.{Settings}
use Rattle.fabric.specs.Device.{Device, database_at, fixed_at, output_names}
use Rattle.fabric.specs.TileWires.{wire_in, tile_wires}
use Rattle.fabric.specs.Graph.{GraphMux, GraphArc, Graph}

-- the number of a wire: its place among the wires
abbrev pub number_of : List Wire → Wire → Option ℕ
number_of wires wire = position (same_wire wire) wires

-- the number of the wire that a name stands for in a tile
abbrev pub number_in : List Wire → Rules → Tile → List ℕ → Option ℕ
number_in wires rules tile name = option_and_then (number_of wires) (wire_in rules tile name)

-- the muxes of the tile of a number, in file order
abbrev pub tile_muxes : Device → List Wire → ℕ → Tile → List GraphMux
tile_muxes device wires number tile =
    filter_map (λ mux. option_map (λ sink. record { tile = number; origin = origin_of tile; sink = sink; mux = mux }) (number_in wires device.profile.rules tile mux.sink))
    (database_at device.types tile).muxes

-- the muxes of all tiles, by tile, then in file order
abbrev pub muxes_of : Device → List Wire → List GraphMux
muxes_of device wires = flat_map (λ t. tile_muxes device wires t.0 t.1) (enumerate_from 0 device.grid.tiles)

abbrev pub arc_in : Device → List Wire → Tile → ℕ → GraphMux → ℕ → Arc → Option GraphArc
arc_in device wires tile number mux place arc =
    option_map (λ source. record { mux = number; place = place; source = source; sink = mux.sink; origin = mux.origin; arc = arc }) (number_in wires device.profile.rules tile arc.source)

-- the arcs of the mux of a number
abbrev pub mux_arcs : Device → List Wire → ℕ → GraphMux → List GraphArc
mux_arcs device wires number mux =
    option_map_or (λ tile. filter_map (λ a. arc_in device wires tile number mux a.0 a.1) (enumerate_from 0 mux.mux.arcs)) (slice_get device.grid.tiles mux.tile) []

-- the arcs of all muxes
abbrev pub arcs_of : Device → List Wire → List GraphArc
arcs_of device wires = flat_map (λ m. mux_arcs device wires m.0 m.1) (enumerate_from 0 (muxes_of device wires))

abbrev pub link_in : List Wire → Rules → Tile → Fixed → Option Link
link_in wires rules tile fixed =
    option_and_then (λ sink. option_map (λ source. record { source = source; sink = sink }) (number_in wires rules tile fixed.source)) (number_in wires rules tile fixed.sink)

-- the fixed connections and joins of all tiles
abbrev pub fixed_of : Device → List Wire → List Link
fixed_of device wires = flat_map (λ tile. filter_map (link_in wires device.profile.rules tile) (fixed_at device tile)) device.grid.tiles

-- the cell outputs of all sites
abbrev pub outputs_of : Device → List Wire → List ℕ
outputs_of device wires = flat_map (λ tile. filter_map (number_in wires device.profile.rules tile) (output_names device tile)) device.grid.tiles

abbrev pub settings_in : Device → Tile → Settings
settings_in device tile = let db = database_at device.types tile in record { words = db.words; enums = db.enums }

-- Arc order: by sink, source, tile, then place in the database. Muxes are numbered by tile and place, so their
-- numbers stand for both.
abbrev pub arc_cmp : GraphArc → GraphArc → Ordering
arc_cmp a b = ordering_then (nat_cmp a.sink b.sink) (ordering_then (nat_cmp a.source b.source) (ordering_then (nat_cmp a.mux b.mux) (nat_cmp a.place b.place)))

-- links are ordered by sink, then source
abbrev pub link_cmp : Link → Link → Ordering
link_cmp a b = ordering_then (nat_cmp a.sink b.sink) (nat_cmp a.source b.source)

-- The graph of a device: wires in wire order, arcs in arc order, fixed connections, joins and outputs in order,
-- each once; muxes by tile and place.
pub record IsGraph (device : Device) (g : Graph) : Type 0 where
  pub grid : g.grid ≡ device.grid
  pub wires : InOrderOnce wire_cmp (flat_map (tile_wires device) device.grid.tiles) g.wires
  pub muxes : g.muxes ≡ muxes_of device g.wires
  pub arcs : InOrderOnce arc_cmp (arcs_of device g.wires) g.arcs
  pub fixed : InOrderOnce link_cmp (fixed_of device g.wires) g.fixed
  pub outputs : InOrderOnce nat_cmp (outputs_of device g.wires) g.outputs
  pub settings : g.settings ≡ map (settings_in device) device.grid.tiles
