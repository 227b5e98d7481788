-- The text of a configuration: the device, the heads, and the sections of tiles with lines, an empty line before
-- each. (After Project Trellis; the order is our own.)
use Rattle.std.specs.Prelude.{ℕ, Bool, true, false, List, [], ◌∷◌, ◌++◌, reverse, codes, if◌then◌else◌}
use Rattle.std.specs.List.{flat_map}
use Rattle.std.specs.Fmt.{decimal}
use Rattle.texts.specs.Printing.{line_of, bit_digits}
use Rattle.records.specs.Config.{Head, ArcLine, WordLine, EnumLine, UnknownLine, TileText, Config}

-- the digits of bits, the highest first
abbrev pub word_digits : List Bool → List ℕ
word_digits bits = bit_digits (reverse bits)

abbrev pub arc_text : ArcLine → List ℕ
arc_text a = line_of (codes "arc:") (a.sink ∷ a.source ∷ [])

abbrev pub word_text : WordLine → List ℕ
word_text w = line_of (codes "word:") (w.name ∷ word_digits w.bits ∷ [])

abbrev pub enum_text : EnumLine → List ℕ
enum_text e = line_of (codes "enum:") (e.name ∷ e.value ∷ [])

abbrev pub unknown_text : UnknownLine → List ℕ
unknown_text u = line_of (codes "unknown:") ((codes "F" ++ decimal u.frame ++ codes "B" ++ decimal u.bit) ∷ [])

-- the lines of a section
abbrev pub lines_text : TileText → List ℕ
lines_text t = flat_map arc_text t.arcs ++ flat_map word_text t.words ++ flat_map enum_text t.enums ++ flat_map unknown_text t.unknowns

-- a section, or nothing where it has no lines
abbrev pub section_with : List ℕ → List ℕ → List ℕ
section_with name [] = []
section_with name (b ∷ bs) = codes "\n" ++ line_of (codes ".tile") (name ∷ []) ++ b ∷ bs

abbrev pub section_text : TileText → List ℕ
section_text t = section_with t.tile (lines_text t)

abbrev pub head_text : Head → List ℕ
head_text h = h.text ++ codes "\n"

-- the text of a configuration
abbrev pub config_text : Config → List ℕ
config_text c = line_of (codes ".device") (c.device ∷ []) ++ flat_map head_text c.heads ++ flat_map section_text c.tiles
