-- A configuration read line by line: what each line makes of what was read before it. It is how the program reads;
-- that it gives what `configuration_of` says is a lemma.
use Rattle.std.specs.Prelude.{ℕ, not, List, [], ◌∷◌, ◌++◌, map, Option, Some, None, Result, Ok, Err, if◌then◌else◌}
use Rattle.words.specs.Ordered.{in_order}
use Rattle.texts.specs.Lines.{Line}
use Rattle.records.specs.Config.{Head, TileText, Config}
use Rattle.config_grammar.specs.ConfigLines.{ConfigLine, DeviceLine, HeadLine, TileLine, ArcOf, WordOf, EnumOf, UnknownOf, OutsideLine, words_in, is_skipped}
use Rattle.config_grammar.specs.Sections.{Item, no_lines}
use Rattle.config_grammar.specs.ConfigText.{ConfigFault, BadLine, OutsideBlock, NoDevice, bad_if, is_none_yet, tile_fault, item_of, section_in_order}

-- what was read so far: the devices that were named, the heads, and the sections in input order
pub record Reading : Type 0 where
  pub devices : List (List ℕ)
  pub heads : List Head
  pub sections : List TileText

-- nothing was read yet
abbrev pub nothing_read : Reading
nothing_read = record { devices = []; heads = []; sections = [] }

-- the last of a list, changed
abbrev pub with_last : {X : Type 0} → (X → X) → List X → List X
with_last change [] = []
with_last change (x ∷ []) = change x ∷ []
with_last change (x ∷ y ∷ ys) = x ∷ with_last change (y ∷ ys)

-- a section with one more line behind its others
abbrev pub line_behind : ℕ → ConfigLine → TileText → TileText
line_behind n (ArcOf sink source) t = record t { arcs = t.arcs ++ record { sink = sink; source = source; line = n } ∷ [] }
line_behind n (WordOf name bits) t = record t { words = t.words ++ record { name = name; bits = bits; line = n } ∷ [] }
line_behind n (EnumOf name value) t = record t { enums = t.enums ++ record { name = name; value = value; line = n } ∷ [] }
line_behind n (UnknownOf frame bit) t = record t { unknowns = t.unknowns ++ record { frame = frame; bit = bit; line = n } ∷ [] }
line_behind n (DeviceLine name) t = t
line_behind n (HeadLine text) t = t
line_behind n (TileLine name) t = t
line_behind n OutsideLine t = t

-- sections with what one more line says
abbrev pub sections_with : ℕ → Option ConfigLine → List TileText → List TileText
sections_with n None ts = ts
sections_with n (Some (DeviceLine name)) ts = ts
sections_with n (Some (HeadLine text)) ts = ts
sections_with n (Some OutsideLine) ts = ts
sections_with n (Some (TileLine name)) ts = ts ++ no_lines n name ∷ []
sections_with n (Some line) ts = with_last (line_behind n line) ts

abbrev pub heads_with : Option ConfigLine → List Head → List Head
heads_with (Some (HeadLine text)) heads = heads ++ record { text = text } ∷ []
heads_with _ heads = heads

abbrev pub devices_with : Option ConfigLine → List (List ℕ) → List (List ℕ)
devices_with (Some (DeviceLine name)) devices = devices ++ name ∷ []
devices_with _ devices = devices

-- what was read, with what one more line says
abbrev pub with_says : ℕ → Option ConfigLine → Reading → Reading
with_says n line r = record {
  devices = devices_with line r.devices;
  heads = heads_with line r.heads;
  sections = sections_with n line r.sections;
}

-- the fault of a line behind what was read
abbrev pub fault_behind : ℕ → Reading → Option ConfigLine → Option ConfigFault
fault_behind n r None = Some (BadLine n)
fault_behind n r (Some OutsideLine) = Some (OutsideBlock n)
fault_behind n r (Some (DeviceLine name)) = bad_if (not (is_none_yet r.devices)) n
fault_behind n r (Some (HeadLine text)) = None
fault_behind n r (Some (TileLine name)) = tile_fault n r.sections name
fault_behind n r (Some (ArcOf sink source)) = bad_if (is_none_yet r.sections) n
fault_behind n r (Some (WordOf name bits)) = bad_if (is_none_yet r.sections) n
fault_behind n r (Some (EnumOf name value)) = bad_if (is_none_yet r.sections) n
fault_behind n r (Some (UnknownOf frame bit)) = bad_if (is_none_yet r.sections) n

-- a value, where there is no fault
abbrev pub or_fault : {X : Type 0} → Option ConfigFault → X → Result X ConfigFault
or_fault None x = Ok x
or_fault (Some fault) x = Err fault

-- what is read behind a line that isn't passed over, or its fault
abbrev pub item_step : Reading → Item → Result Reading ConfigFault
item_step r item = or_fault (fault_behind item.number r item.says) (with_says item.number item.says r)

-- what is read behind a line, or its fault
abbrev pub line_step : Reading → Line → Result Reading ConfigFault
line_step r line = if is_skipped (words_in line) then Ok r else item_step r (item_of line)

-- what is read on from a result
abbrev pub go_on : {X Y F : Type 0} → Result X F → (X → Result Y F) → Result Y F
go_on (Ok x) next = next x
go_on (Err fault) next = Err fault

-- what is read behind all lines, or the first fault
abbrev pub read_lines : Reading → List Line → Result Reading ConfigFault
read_lines r [] = Ok r
read_lines r (line ∷ lines) = go_on (line_step r line) (λ next. read_lines next lines)

-- the configuration of what was read, where a device was named
abbrev pub config_with : Reading → List (List ℕ) → Result Config ConfigFault
config_with r [] = Err NoDevice
config_with r (device ∷ more) =
    Ok (record { device = device; heads = r.heads; tiles = in_order (λ t. t.tile) (map section_in_order r.sections) })

abbrev pub config_read : Reading → Result Config ConfigFault
config_read r = config_with r r.devices
