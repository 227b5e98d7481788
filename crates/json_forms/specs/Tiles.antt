-- What a member of a grid, `tilegrid.json`, is read as. (After Project Trellis; bounds and faults are our own.)
use Rattle.std.specs.Prelude.{ℕ, ◌-◌, Bool, true, List, Option, Some, None, Result, Ok, Err, codes, nat_le, if◌then◌else◌, ◌&&◌}
use Rattle.serde_json.specs.Data.{Data}
use Rattle.records.specs.Limits.{Place, most_in_tile, most_in_place}
use Rattle.records.specs.Grid.{Tile}
use Rattle.json_forms.specs.Options.{◌>>=◌}
use Rattle.json_forms.specs.Values.{Member, member_in, if_name, name_in, whole_in}
use Rattle.json_forms.specs.Faults.{FormFault, BadShape, TooLarge}
use Rattle.json_forms.specs.Places.{place_of}

abbrev pub tile_number_in : List ℕ → Data → Option ℕ
tile_number_in name d = member_in name (whole_in most_in_tile) d

-- The tile that a member of the file is: its name and its `type` are names, and its four numbers are whole.
-- Other members of it are ignored.
unfoldable pub tile_in : Member → Option Tile
tile_in m = do
  name ← if_name m.name
  kind ← member_in (codes "type") name_in m.value
  cols ← tile_number_in (codes "cols") m.value
  rows ← tile_number_in (codes "rows") m.value
  start_frame ← tile_number_in (codes "start_frame") m.value
  start_bit ← tile_number_in (codes "start_bit") m.value
  Some (record { name = name; kind = kind; place = place_of name; cols = cols; rows = rows; start_frame = start_frame; start_bit = start_bit })

abbrev pub place_fits : Option (ℕ × ℕ) → Bool
place_fits None = true
place_fits (Some place) = nat_le place.0 most_in_place && nat_le place.1 most_in_place

-- what a member of the file is read as
unfoldable pub tile_of : Member → Result Tile FormFault
tile_of m = elim (tile_in m) [ None ↦ Err (BadShape m.name) | Some tile ↦ if place_fits tile.place then Ok tile else Err (TooLarge Place) ]
