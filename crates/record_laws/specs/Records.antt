-- The records of databases behind the numbers of muxes and arcs. (Our own.)
use Rattle.std.specs.Prelude.{◌≡◌, ◌<◌, ℕ, List, [], length, find, map, Option, None, Some, option_map, option_and_then, position, slice_get, slice_index}
use Rattle.std.specs.Option.{option_map_or}
use Rattle.std.specs.Str.{bytes_eq}
use Rattle.words.specs.Members.{In}
use Rattle.records.specs.Database.{Arc, Mux, TileDb}
use Rattle.records.specs.Grid.{Tile}
use Rattle.fabric.specs.Device.{TypeDb, Device}
use Rattle.fabric.specs.Graph.{Graph}
use Rattle.fabric.specs.GraphOf.{IsGraph, settings_in}
use Rattle.fabric.specs.Settings.{Settings}
use Rattle.graph_lists.specs.ArcLists.{ArcNumbers, numbers_of}
use Rattle.mux_rows.specs.MuxTable.{MuxNumbers}
use Rattle.graph_numbers.specs.Numbers.{mux_numbers}

-- the database of the type of a name, with the name
abbrev pub type_named : List TypeDb → List ℕ → Option TypeDb
type_named types kind = find (λ t. bytes_eq t.kind kind) types

-- the database of a tile, and that of the tile of a number; none where its type has none
abbrev pub db_of : Device → Tile → Option TileDb
db_of device tile = option_map (λ t. t.db) (type_named device.types tile.kind)

abbrev pub db_at : Device → ℕ → Option TileDb
db_at device tile = option_and_then (db_of device) (slice_get device.grid.tiles tile)

-- the settings of the tile of a number; none where there is no such tile
abbrev pub settings_of : Device → ℕ → Settings
settings_of device t = option_map_or (settings_in device) (slice_get device.grid.tiles t) (record { words = []; enums = [] })

-- the record of a mux by numbers
abbrev pub mux_record : Device → MuxNumbers → Option Mux
mux_record device m = option_and_then (λ db. slice_get db.muxes m.place) (db_at device m.tile)

-- those of a mux and an arc by their numbers
abbrev pub mux_behind : Device → List MuxNumbers → ℕ → Option Mux
mux_behind device muxes m = option_and_then (mux_record device) (slice_get muxes m)

abbrev pub arc_behind : Device → List MuxNumbers → List ArcNumbers → ℕ → Option Arc
arc_behind device muxes arcs a = option_and_then (λ x. option_and_then (λ mux. slice_get mux.arcs x.place) (mux_behind device muxes x.mux)) (slice_get arcs a)

-- the first arc of the mux of a number from a source, whether or not the source is ignored
abbrev pub arc_named_behind : Device → List MuxNumbers → ℕ → List ℕ → Option Arc
arc_named_behind device muxes m source = option_and_then (λ mux. find (λ a. bytes_eq a.source source) mux.arcs) (mux_behind device muxes m)

-- the place of the first mux of a sink in the database of the tile of a number
abbrev pub place_named : Device → ℕ → List ℕ → Option ℕ
place_named device t sink = option_and_then (λ db. position (λ m. bytes_eq m.sink sink) db.muxes) (db_at device t)

-- the muxes by numbers are those of the graph of a device
pub record AreMuxesOf (device : Device) (g : Graph) (muxes : List MuxNumbers) : Type 0 where
  pub is : IsGraph device g
  pub muxes_are : muxes ≡ mux_numbers device g.wires

-- so are the arcs
pub record AreArcsOf (device : Device) (g : Graph) (muxes : List MuxNumbers) (arcs : List ArcNumbers) : Type 0 where
  pub of_muxes : AreMuxesOf device g muxes
  pub arcs_are : map numbers_of g.arcs ≡ arcs

-- the place of a mux by its number
abbrev pub place_of : List MuxNumbers → ℕ → ℕ
place_of muxes m = option_map_or (λ x. x.place) (slice_get muxes m) 0

-- the places of muxes by number rise
abbrev pub PlacesRise : List MuxNumbers → List ℕ → Type 0
PlacesRise muxes row = (i j : ℕ) → i < j → j < length row → place_of muxes (slice_index row i) < place_of muxes (slice_index row j)

-- a mux of a list is the one at a place; none of the list is
abbrev pub IsAt : List MuxNumbers → List ℕ → ℕ → ℕ → Type 0
IsAt muxes row place m = In row m × (place_of muxes m ≡ place)

abbrev pub HasNoneAt : List MuxNumbers → List ℕ → ℕ → Type 0
HasNoneAt muxes row place = (m : ℕ) → In row m → place_of muxes m ≡ place → ⊥

-- What a search for the mux at a place answers: none where no place is asked for; else the mux of the list at the place, or none
-- where none is.
abbrev pub FoundAt : List MuxNumbers → List ℕ → Option ℕ → Option ℕ → Type 0
FoundAt muxes row None r = r ≡ None
FoundAt muxes row (Some place) None = HasNoneAt muxes row place
FoundAt muxes row (Some place) (Some m) = IsAt muxes row place m
