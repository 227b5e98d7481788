-- Whether a section has lines.
use Rattle.std.specs.Prelude.{Bool, ◌&&◌}
use Rattle.records.specs.Config.{TileText}
use Rattle.config_grammar.specs.ConfigText.{is_none_yet}

abbrev pub has_no_lines : TileText → Bool
has_no_lines t = is_none_yet t.arcs && is_none_yet t.words && is_none_yet t.enums && is_none_yet t.unknowns
