-- What the lines of the program say, and what of the grammar they stand for.
use Rattle.std.specs.Prelude.{◌≡◌, true}
use Rattle.texts.specs.Names.{is_name}
use Rattle.config_grammar.specs.ConfigLines.{ConfigLine, DeviceLine, HeadLine, TileLine, ArcOf, WordOf, EnumOf, UnknownOf, OutsideLine, bits_of_digits}
use Rattle.config_text.specs.declared.says.InTile.{InTile}
use Rattle.config_text.specs.declared.says.InTile.TheVariants.{Arc, Word, Enum, Unknown}
use Rattle.config_text.specs.declared.says.Saying.{Saying}
use Rattle.config_text.specs.declared.says.Saying.TheVariants as say

abbrev pub in_tile_view : InTile → ConfigLine
in_tile_view (Arc sink source) = ArcOf sink.now source.now
in_tile_view (Word name digits) = WordOf name.now (bits_of_digits digits.now)
in_tile_view (Enum name value) = EnumOf name.now value.now
in_tile_view (Unknown frame bit) = UnknownOf frame bit

abbrev pub saying_view : Saying → ConfigLine
saying_view (say.Device name) = DeviceLine name.now
saying_view (say.Head text) = HeadLine text.now
saying_view (say.Tile name) = TileLine name.now
saying_view (say.InTile line) = in_tile_view line
saying_view say.Outside = OutsideLine

-- what a line of a section names are names
abbrev pub AreNamesInTile : InTile → Type 0
AreNamesInTile (Arc sink source) = (is_name sink.now ≡ true) × (is_name source.now ≡ true)
AreNamesInTile (Word name digits) = is_name name.now ≡ true
AreNamesInTile (Enum name value) = (is_name name.now ≡ true) × (is_name value.now ≡ true)
AreNamesInTile (Unknown frame bit) = Unit {0}

-- what a line names are names
abbrev pub AreNames : Saying → Type 0
AreNames (say.Device name) = is_name name.now ≡ true
AreNames (say.Head text) = Unit {0}
AreNames (say.Tile name) = is_name name.now ≡ true
AreNames (say.InTile line) = AreNamesInTile line
AreNames say.Outside = Unit {0}
