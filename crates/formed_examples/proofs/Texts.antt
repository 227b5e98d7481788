-- The texts are read as they should be.
use Rattle.std.proofs.Common.{◌≡◌, refl}
use Rattle.std.specs.Prelude.{Ok}
use Rattle.std.specs.Str.{is_utf8, chars}
use Rattle.serde_json.proofs.OnLiterals.{serde_json_on_literals}
use Rattle.json_forms.specs.Values.{reading_of}
use Rattle.json_forms.specs.Choices.{choice_in}
use Rattle.json_forms.specs.Kinds.{join_in, require_in, table_in, register_in, slice_in, pad_in}
use Rattle.json_forms.specs.MiniGrid.{mini_grid_text}
use Rattle.json_forms.specs.Places.{place_of}
use Rattle.json_forms.specs.Tiles.{tile_in, tile_of}
use Rattle.json_forms.specs.Grid.{grid_of_members}
use Rattle.json_forms.specs.Profile.{profile_of_value, profile_of}
use Rattle.json_forms.specs.Lists.{elements_read}
use Rattle.side_form.specs.Placings.{placed_in, names_in, voter_in}
use Rattle.side_form.specs.Side.{side_in, side_of}
use Rattle.mini.specs.MiniA.{mini_a}
use Rattle.mini.specs.Toggle.{toggle_side}
use Rattle.formed_laws.specs.Readers.{IsReadGrid, IsReadProfile, IsReadSide}
use Rattle.formed_examples.specs.Texts.{profile_text, side_text}

pub profile_is : profile_of profile_text ≡ Ok mini_a.profile
unfolding reading_of is_utf8 chars serde_json_on_literals choice_in join_in require_in table_in register_in slice_in pad_in elements_read profile_of_value
profile_is = refl

pub side_is : side_of side_text ≡ Ok toggle_side
unfolding reading_of is_utf8 chars serde_json_on_literals elements_read placed_in names_in voter_in side_in
side_is = refl

pub profile_read : IsReadProfile mini_a.profile
profile_read = (profile_text, profile_is)

pub side_read : IsReadSide toggle_side
side_read = (side_text, side_is)

pub grid_read : IsReadGrid mini_a.grid
unfolding reading_of is_utf8 chars serde_json_on_literals tile_in tile_of grid_of_members place_of
grid_read = (mini_grid_text, refl)
