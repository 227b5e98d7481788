use Rattle.std.specs.Prelude.{refl}
use Rattle.std.specs.Str.{is_utf8, chars}
use Rattle.serde_json.proofs.OnLiterals.{serde_json_on_literals}
use Rattle.json_forms.specs.Values.{reading_of}
use Rattle.json_forms.specs.Tiles.{tile_in, tile_of}
use Rattle.json_forms.specs.Grid.{grid_of_members}
use Rattle.json_forms.specs.Places.{place_of}
use Rattle.json_forms.proofs.small_grids_have_their_faults.Goals as goal

pub returns : goal.returns
unfolding reading_of is_utf8 chars serde_json_on_literals tile_in tile_of grid_of_members place_of
returns c = record { no_json = refl; no_object = refl; large_place = refl; large_number = refl }
