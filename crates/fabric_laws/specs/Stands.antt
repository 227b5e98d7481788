-- What the numbers of an arc stand for.
use Rattle.std.specs.Prelude.{◌≡◌, ℕ, List, Some, slice_get}
use Rattle.words.specs.Members.{In}
use Rattle.records.specs.Database.{Arc, Mux}
use Rattle.records.specs.Grid.{Tile, origin_of}
use Rattle.fabric.specs.Wires.{Wire}
use Rattle.fabric.specs.Device.{Device, database_at}
use Rattle.fabric.specs.TileWires.{wire_in}
use Rattle.fabric.specs.Graph.{GraphMux, GraphArc, Graph}

-- a number is that of the wire for which a name stands in a tile
pub record StandsFor (device : Device) (g : Graph) (tile : Tile) (name : List ℕ) (number : ℕ) : Type 0 where
  pub wire : Wire
  pub named : wire_in device.profile.rules tile name ≡ Some wire
  pub numbered : slice_get g.wires number ≡ Some wire

-- An arc is an arc of a mux of a tile, and leads from the wire for which its source's name stands in the tile
-- to that for which the mux's sink's name stands.
pub record ArcStands (device : Device) (g : Graph) (a : GraphArc) : Type 0 where
  pub mux : GraphMux
  pub tile : Tile
  pub of_mux : slice_get g.muxes a.mux ≡ Some mux
  pub in_tile : slice_get device.grid.tiles mux.tile ≡ Some tile
  pub listed : slice_get mux.mux.arcs a.place ≡ Some a.arc
  pub same_sink : a.sink ≡ mux.sink
  pub origin : a.origin ≡ origin_of tile
  pub sink : StandsFor device g tile mux.mux.sink a.sink
  pub source : StandsFor device g tile a.arc.source a.source

-- A mux is a mux of a tile's database, and drives the wire for which its sink's name stands in the tile.
pub record MuxStands (device : Device) (g : Graph) (m : GraphMux) : Type 0 where
  pub tile : Tile
  pub in_tile : slice_get device.grid.tiles m.tile ≡ Some tile
  pub listed : In (database_at device.types tile).muxes m.mux
  pub origin : m.origin ≡ origin_of tile
  pub sink : StandsFor device g tile m.mux.sink m.sink

-- An arc of a tile's database whose names both stand for wires.
pub record NamesArc (device : Device) (number : ℕ) (mux : Mux) (place : ℕ) (arc : Arc) : Type 0 where
  pub tile : Tile
  pub in_tile : slice_get device.grid.tiles number ≡ Some tile
  pub of_mux : In (database_at device.types tile).muxes mux
  pub listed : slice_get mux.arcs place ≡ Some arc
  pub sink : Wire
  pub sink_named : wire_in device.profile.rules tile mux.sink ≡ Some sink
  pub source : Wire
  pub source_named : wire_in device.profile.rules tile arc.source ≡ Some source

-- the graph holds it
pub record HasArc (g : Graph) (number : ℕ) (mux : Mux) (place : ℕ) (arc : Arc) : Type 0 where
  pub found : GraphArc
  pub listed : In g.arcs found
  pub of_mux : GraphMux
  pub mux_listed : slice_get g.muxes found.mux ≡ Some of_mux
  pub same_tile : of_mux.tile ≡ number
  pub same_mux : of_mux.mux ≡ mux
  pub same_place : found.place ≡ place
  pub same_arc : found.arc ≡ arc
