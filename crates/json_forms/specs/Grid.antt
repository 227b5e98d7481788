-- What the bytes of a grid, `tilegrid.json`, are read as. (After Project Trellis; limits and faults are our own.)
use Rattle.std.specs.Prelude.{ℕ, suc, max, List, length, map, fold, Option, Some, None, Result, Err, nat_lt, if◌then◌else◌}
use Rattle.std.specs.List.{filter_map}
use Rattle.std.specs.Set.{distinct_count}
use Rattle.std.specs.Str.{bytes_eq}
use Rattle.serde_json.specs.Data.{Data}
use Rattle.words.specs.Firsts.{unless_fault}
use Rattle.records.specs.Limits.{Tiles, Types, most_tiles, most_types}
use Rattle.records.specs.Grid.{Tile, Grid}
use Rattle.json_forms.specs.Results.{◌>>=◌}
use Rattle.json_forms.specs.Each.{each_or_fault}
use Rattle.json_forms.specs.Values.{Member, reading_of, object_in}
use Rattle.json_forms.specs.Faults.{FormFault, NotJson, BadShape, TooLarge, top_key}
use Rattle.json_forms.specs.Tiles.{tile_of}

-- how many types tiles have
abbrev pub type_count : List Tile → ℕ
type_count tiles = distinct_count bytes_eq (map (λ tile. tile.kind) tiles)

-- the fault of too many tiles, or else of too many types
abbrev pub count_fault : List Tile → Option FormFault
count_fault tiles =
    if nat_lt most_tiles (length tiles) then Some (TooLarge Tiles)
    else if nat_lt most_types (type_count tiles) then Some (TooLarge Types)
    else None

-- the greatest number of a list plus one, 0 where it is empty
abbrev pub extent_of : List ℕ → ℕ
extent_of numbers = fold max 0 (map suc numbers)

abbrev pub places_of : List Tile → List (ℕ × ℕ)
places_of tiles = filter_map (λ tile. tile.place) tiles

-- tiles with the height and width that hold all places
abbrev pub grid_with : List Tile → Grid
grid_with tiles = record {
  tiles = tiles;
  height = extent_of (map (λ place. place.0) (places_of tiles));
  width = extent_of (map (λ place. place.1) (places_of tiles));
}

-- The grid that the members of the file are: the first faulty tile decides, and the counts of tiles and types
-- are looked at after all tiles.
unfoldable pub grid_of_members : List Member → Result Grid FormFault
grid_of_members ms = do
  tiles ← each_or_fault tile_of ms
  unless_fault (count_fault tiles) (grid_with tiles)

abbrev pub grid_of_value : Data → Result Grid FormFault
grid_of_value d = elim (object_in d) [ None ↦ Err (BadShape top_key) | Some ms ↦ grid_of_members ms ]

-- What the bytes of a grid are read as, or their first fault.
abbrev pub grid_of : List ℕ → Result Grid FormFault
grid_of bytes = elim (reading_of bytes) [ None ↦ Err NotJson | Some d ↦ grid_of_value d ]
