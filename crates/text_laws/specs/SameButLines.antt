-- Sections without the numbers of their lines. (Our own.)
use Rattle.std.specs.Prelude.{◌≡◌, Bool, true, not, map, filter, ◌&&◌}
use Rattle.words.specs.Members.{In}
use Rattle.records.specs.Config.{ArcLine, WordLine, EnumLine, UnknownLine, TileText, Config}
use Rattle.config_grammar.specs.ConfigText.{is_none_yet}

abbrev pub unnumbered_arc : ArcLine → ArcLine
unnumbered_arc a = record { sink = a.sink; source = a.source; line = 0 }

abbrev pub unnumbered_word : WordLine → WordLine
unnumbered_word w = record { name = w.name; bits = w.bits; line = 0 }

abbrev pub unnumbered_enum : EnumLine → EnumLine
unnumbered_enum e = record { name = e.name; value = e.value; line = 0 }

abbrev pub unnumbered_unknown : UnknownLine → UnknownLine
unnumbered_unknown u = record { frame = u.frame; bit = u.bit; line = 0 }

-- a section with 0 for each number of a line
abbrev pub unnumbered : TileText → TileText
unnumbered t = record {
  tile = t.tile;
  line = 0;
  arcs = map unnumbered_arc t.arcs;
  words = map unnumbered_word t.words;
  enums = map unnumbered_enum t.enums;
  unknowns = map unnumbered_unknown t.unknowns;
}

-- a section has an arc, a word, an enum or an unknown bit
abbrev pub has_lines : TileText → Bool
has_lines t = not (is_none_yet t.arcs && is_none_yet t.words && is_none_yet t.enums && is_none_yet t.unknowns)

-- each section of a configuration has lines
abbrev pub EachHasLines : Config → Type 0
EachHasLines c = (t : TileText) → In c.tiles t → has_lines t ≡ true

-- one device and equal heads, and the same sections with lines, but for the numbers of lines
pub record SameButLines (c d : Config) : Type 0 where
  pub device : d.device ≡ c.device
  pub heads : d.heads ≡ c.heads
  pub sections : map unnumbered (filter has_lines d.tiles) ≡ map unnumbered (filter has_lines c.tiles)
