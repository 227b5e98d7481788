use Rattle.std.proofs.Common.{refl}
use Rattle.std.specs.Str.{is_utf8, chars}
use Rattle.serde_json.proofs.OnLiterals.{serde_json_on_literals}
use Rattle.json_forms.specs.Values.{reading_of}
use Rattle.json_forms.specs.Places.{place_of}
use Rattle.json_forms.specs.Tiles.{tile_in, tile_of}
use Rattle.json_forms.specs.Grid.{grid_of_members}
use Rattle.json_forms.specs.Profile.{profile_of_value}
use Rattle.json_forms.specs.Lists.{elements_read}
use Rattle.side_form.specs.Side.{side_in}
use Rattle.design_files.specs.Designs.{design_of}
use Rattle.design_examples.proofs.first_faulty_file_decides.Goals as goal

pub returns-clause-nothing : goal.returns-clause-nothing
unfolding design_of
returns-clause-nothing c = refl

pub returns-clause-no_device : goal.returns-clause-no_device
unfolding design_of
returns-clause-no_device c = refl

pub returns-clause-no_grid : goal.returns-clause-no_grid
unfolding design_of
returns-clause-no_grid c = refl

pub returns-clause-profile : goal.returns-clause-profile
unfolding serde_json_on_literals design_of grid_of_members profile_of_value elements_read reading_of is_utf8 chars
returns-clause-profile c = refl

pub returns-clause-shape : goal.returns-clause-shape
unfolding serde_json_on_literals design_of grid_of_members profile_of_value elements_read reading_of is_utf8 chars
returns-clause-shape c = refl

pub returns-clause-side : goal.returns-clause-side
unfolding serde_json_on_literals design_of tile_in tile_of place_of grid_of_members profile_of_value elements_read side_in reading_of is_utf8 chars
returns-clause-side c = refl

pub returns-clause-database : goal.returns-clause-database
unfolding serde_json_on_literals design_of tile_in tile_of place_of grid_of_members profile_of_value elements_read side_in reading_of is_utf8 chars
returns-clause-database c = refl
