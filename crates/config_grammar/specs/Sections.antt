-- The sections of a text configuration: a tile's line and the lines behind it up to the next tile's. (After Project
-- Trellis.)
use Rattle.std.specs.Prelude.{ℕ, List, [], ◌∷◌, Option, Some, None}
use Rattle.records.specs.Config.{Head, ArcLine, WordLine, EnumLine, UnknownLine, TileText}
use Rattle.config_grammar.specs.ConfigLines.{ConfigLine, DeviceLine, HeadLine, TileLine, ArcOf, WordOf, EnumOf, UnknownOf, OutsideLine}

-- a line with its number, and what it says where it says anything
pub record Item : Type 0 where
  pub number : ℕ
  pub says : Option ConfigLine

-- a section with one more line in front of its others; a device's line and heads end no section
abbrev pub line_before : ℕ → ConfigLine → TileText → TileText
line_before n (ArcOf sink source) t = record t { arcs = record { sink = sink; source = source; line = n } ∷ t.arcs }
line_before n (WordOf name bits) t = record t { words = record { name = name; bits = bits; line = n } ∷ t.words }
line_before n (EnumOf name value) t = record t { enums = record { name = name; value = value; line = n } ∷ t.enums }
line_before n (UnknownOf frame bit) t = record t { unknowns = record { frame = frame; bit = bit; line = n } ∷ t.unknowns }
line_before n (DeviceLine name) t = t
line_before n (HeadLine text) t = t
line_before n (TileLine name) t = t
line_before n OutsideLine t = t

-- a section of no lines
abbrev pub no_lines : ℕ → List ℕ → TileText
no_lines n name = record { tile = name; line = n; arcs = []; words = []; enums = []; unknowns = [] }

-- what stands behind a line: the lines up to the next tile's, in a section of some tile, and the sections from there
-- on
pub record Behind : Type 0 where
  pub inside : TileText
  pub sections : List TileText

abbrev pub nothing_behind : Behind
nothing_behind = record { inside = no_lines 0 []; sections = [] }

-- the section that begins here
abbrev pub section_of : ℕ → List ℕ → TileText → TileText
section_of n name t = record t { tile = name; line = n }

abbrev pub behind_with : ℕ → Option ConfigLine → Behind → Behind
behind_with n None b = b
behind_with n (Some (TileLine name)) b = record { inside = no_lines 0 []; sections = section_of n name b.inside ∷ b.sections }
behind_with n (Some line) b = record { inside = line_before n line b.inside; sections = b.sections }

abbrev pub behind_of : List Item → Behind
behind_of [] = nothing_behind
behind_of (item ∷ items) = behind_with item.number item.says (behind_of items)

-- the sections of lines, in input order
abbrev pub sections_of : List Item → List TileText
sections_of items = (behind_of items).sections

-- the heads of lines, in input order
abbrev pub head_before : Option ConfigLine → List Head → List Head
head_before (Some (HeadLine text)) heads = record { text = text } ∷ heads
head_before _ heads = heads

abbrev pub heads_of : List Item → List Head
heads_of [] = []
heads_of (item ∷ items) = head_before item.says (heads_of items)

-- the device that a line names
abbrev pub device_in : Option ConfigLine → Option (List ℕ)
device_in (Some (DeviceLine name)) = Some name
device_in _ = None
