-- Reading line by line gives what the lines say together, or the fault of the first faulty one.
use Rattle.std.proofs.Common.{◌≡◌, ℕ, List, [], ◌∷◌, ◌++◌, Option, Some, None, Result, Ok, Err, Bool, true, false, not, cond, map, filter, refl, sym, ap, ◌∙◌, append_assoc}
use Rattle.std.proofs.lemmas.List.{append-nil}
use Rattle.std.proofs.lemmas.List.Elements.{filter_map-append}
use Rattle.words.specs.Firsts.{first_fault_after, first_fault, or_else, fault_or}
use Rattle.texts.specs.Lines.{Line, lines_of}
use Rattle.records.specs.Config.{Head, TileText}
use Rattle.config_grammar.specs.ConfigLines.{ConfigLine, DeviceLine, HeadLine, TileLine, ArcOf, WordOf, EnumOf, UnknownOf, OutsideLine, words_in, is_skipped}
use Rattle.config_grammar.specs.Sections.{Item, Behind, line_before, section_of, nothing_behind, behind_with, behind_of, sections_of, no_lines, head_before, heads_of, device_in}
use Rattle.config_grammar.specs.ConfigText.{ConfigFault, item_of, items_of, devices_of, says_fault, item_fault, with_device, configuration_of}
use Rattle.config_text.specs.LineByLine.{Reading, nothing_read, line_behind, sections_with, heads_with, devices_with, with_says, fault_behind, or_fault, item_step, line_step, go_on, read_lines, config_with, config_read}

-- ---- sections

-- the section that is open takes one more line, where no other begins behind it
inside_with : ℕ → Option ConfigLine → List TileText → TileText → TileText
inside_with n None ts t = t
inside_with n (Some line) [] t = line_behind n line t
inside_with n (Some line) (u ∷ us) t = t

-- what stands behind a line, with one more line at the end
abbrev with_line_behind : ℕ → Option ConfigLine → Behind → Behind
with_line_behind n line b = record { inside = inside_with n line b.sections b.inside; sections = sections_with n line b.sections }

-- a line in front and one behind can be put in any order
front_and_behind : (k : ℕ) (front : ConfigLine) (n : ℕ) (line : ConfigLine) (t : TileText) → line_before k front (line_behind n line t) ≡ line_behind n line (line_before k front t)
front_and_behind k (DeviceLine device) n line t = refl
front_and_behind k (HeadLine text) n line t = refl
front_and_behind k (TileLine tile) n line t = refl
front_and_behind k OutsideLine n line t = refl
front_and_behind k (ArcOf sink source) n (DeviceLine device2) t = refl
front_and_behind k (ArcOf sink source) n (HeadLine text2) t = refl
front_and_behind k (ArcOf sink source) n (TileLine tile2) t = refl
front_and_behind k (ArcOf sink source) n (ArcOf sink2 source2) t = refl
front_and_behind k (ArcOf sink source) n (WordOf name2 bits2) t = refl
front_and_behind k (ArcOf sink source) n (EnumOf name2 value2) t = refl
front_and_behind k (ArcOf sink source) n (UnknownOf frame2 bit2) t = refl
front_and_behind k (ArcOf sink source) n OutsideLine t = refl
front_and_behind k (WordOf name bits) n (DeviceLine device2) t = refl
front_and_behind k (WordOf name bits) n (HeadLine text2) t = refl
front_and_behind k (WordOf name bits) n (TileLine tile2) t = refl
front_and_behind k (WordOf name bits) n (ArcOf sink2 source2) t = refl
front_and_behind k (WordOf name bits) n (WordOf name2 bits2) t = refl
front_and_behind k (WordOf name bits) n (EnumOf name2 value2) t = refl
front_and_behind k (WordOf name bits) n (UnknownOf frame2 bit2) t = refl
front_and_behind k (WordOf name bits) n OutsideLine t = refl
front_and_behind k (EnumOf name value) n (DeviceLine device2) t = refl
front_and_behind k (EnumOf name value) n (HeadLine text2) t = refl
front_and_behind k (EnumOf name value) n (TileLine tile2) t = refl
front_and_behind k (EnumOf name value) n (ArcOf sink2 source2) t = refl
front_and_behind k (EnumOf name value) n (WordOf name2 bits2) t = refl
front_and_behind k (EnumOf name value) n (EnumOf name2 value2) t = refl
front_and_behind k (EnumOf name value) n (UnknownOf frame2 bit2) t = refl
front_and_behind k (EnumOf name value) n OutsideLine t = refl
front_and_behind k (UnknownOf frame bit) n (DeviceLine device2) t = refl
front_and_behind k (UnknownOf frame bit) n (HeadLine text2) t = refl
front_and_behind k (UnknownOf frame bit) n (TileLine tile2) t = refl
front_and_behind k (UnknownOf frame bit) n (ArcOf sink2 source2) t = refl
front_and_behind k (UnknownOf frame bit) n (WordOf name2 bits2) t = refl
front_and_behind k (UnknownOf frame bit) n (EnumOf name2 value2) t = refl
front_and_behind k (UnknownOf frame bit) n (UnknownOf frame2 bit2) t = refl
front_and_behind k (UnknownOf frame bit) n OutsideLine t = refl

front_and_inside : (k : ℕ) (front : ConfigLine) (n : ℕ) (line : Option ConfigLine) (ts : List TileText) (t : TileText) → line_before k front (inside_with n line ts t) ≡ inside_with n line ts (line_before k front t)
unfolding inside_with
front_and_inside k front n None ts t = refl
front_and_inside k front n (Some line) [] t = front_and_behind k front n line t
front_and_inside k front n (Some line) (u ∷ us) t = refl

-- a section that begins in front takes the line where no other begins behind it
section_and_behind : (k : ℕ) (tile : List ℕ) (n : ℕ) (line : Option ConfigLine) (ts : List TileText) (t : TileText) → section_of k tile (inside_with n line ts t) ∷ sections_with n line ts ≡ sections_with n line (section_of k tile t ∷ ts)
unfolding inside_with
section_and_behind k tile n None ts t = refl
section_and_behind k tile n (Some (DeviceLine device2)) [] t = refl
section_and_behind k tile n (Some (DeviceLine device2)) (u ∷ us) t = refl
section_and_behind k tile n (Some (HeadLine text2)) [] t = refl
section_and_behind k tile n (Some (HeadLine text2)) (u ∷ us) t = refl
section_and_behind k tile n (Some (TileLine tile2)) [] t = refl
section_and_behind k tile n (Some (TileLine tile2)) (u ∷ us) t = refl
section_and_behind k tile n (Some (ArcOf sink2 source2)) [] t = refl
section_and_behind k tile n (Some (ArcOf sink2 source2)) (u ∷ us) t = refl
section_and_behind k tile n (Some (WordOf name2 bits2)) [] t = refl
section_and_behind k tile n (Some (WordOf name2 bits2)) (u ∷ us) t = refl
section_and_behind k tile n (Some (EnumOf name2 value2)) [] t = refl
section_and_behind k tile n (Some (EnumOf name2 value2)) (u ∷ us) t = refl
section_and_behind k tile n (Some (UnknownOf frame2 bit2)) [] t = refl
section_and_behind k tile n (Some (UnknownOf frame2 bit2)) (u ∷ us) t = refl
section_and_behind k tile n (Some OutsideLine) [] t = refl
section_and_behind k tile n (Some OutsideLine) (u ∷ us) t = refl

no_section_inside : (n : ℕ) (line : Option ConfigLine) (u : TileText) (us : List TileText) (t : TileText) → inside_with n line (u ∷ us) t ≡ t
unfolding inside_with
no_section_inside n None u us t = refl
no_section_inside n (Some line) u us t = refl

behind_step : (k : ℕ) (front : Option ConfigLine) (n : ℕ) (line : Option ConfigLine) (b : Behind) → behind_with k front (with_line_behind n line b) ≡ with_line_behind n line (behind_with k front b)
behind_step k None n line b = refl
behind_step k (Some (DeviceLine device)) n line b = ap (λ t. let c : Behind = record { inside = t; sections = sections_with n line b.sections } in c) (front_and_inside k (DeviceLine device) n line b.sections b.inside)
behind_step k (Some (HeadLine text)) n line b = ap (λ t. let c : Behind = record { inside = t; sections = sections_with n line b.sections } in c) (front_and_inside k (HeadLine text) n line b.sections b.inside)
behind_step k (Some (TileLine tile)) n line b =
    ap (λ ts. let c : Behind = record { inside = no_lines 0 []; sections = ts } in c) (section_and_behind k tile n line b.sections b.inside)
    ∙ ap (λ t. let c : Behind = record { inside = t; sections = sections_with n line (section_of k tile b.inside ∷ b.sections) } in c) (sym (no_section_inside n line (section_of k tile b.inside) b.sections (no_lines 0 [])))
behind_step k (Some (ArcOf sink source)) n line b = ap (λ t. let c : Behind = record { inside = t; sections = sections_with n line b.sections } in c) (front_and_inside k (ArcOf sink source) n line b.sections b.inside)
behind_step k (Some (WordOf name bits)) n line b = ap (λ t. let c : Behind = record { inside = t; sections = sections_with n line b.sections } in c) (front_and_inside k (WordOf name bits) n line b.sections b.inside)
behind_step k (Some (EnumOf name value)) n line b = ap (λ t. let c : Behind = record { inside = t; sections = sections_with n line b.sections } in c) (front_and_inside k (EnumOf name value) n line b.sections b.inside)
behind_step k (Some (UnknownOf frame bit)) n line b = ap (λ t. let c : Behind = record { inside = t; sections = sections_with n line b.sections } in c) (front_and_inside k (UnknownOf frame bit) n line b.sections b.inside)
behind_step k (Some OutsideLine) n line b = ap (λ t. let c : Behind = record { inside = t; sections = sections_with n line b.sections } in c) (front_and_inside k OutsideLine n line b.sections b.inside)

behind_alone : (n : ℕ) (line : Option ConfigLine) → behind_with n line nothing_behind ≡ with_line_behind n line nothing_behind
unfolding inside_with
behind_alone n None = refl
behind_alone n (Some (DeviceLine device)) = refl
behind_alone n (Some (HeadLine text)) = refl
behind_alone n (Some (TileLine tile)) = refl
behind_alone n (Some (ArcOf sink source)) = refl
behind_alone n (Some (WordOf name bits)) = refl
behind_alone n (Some (EnumOf name value)) = refl
behind_alone n (Some (UnknownOf frame bit)) = refl
behind_alone n (Some OutsideLine) = refl

-- the sections of lines with one more at the end
behind_at_end : (items : List Item) (item : Item) → behind_of (items ++ item ∷ []) ≡ with_line_behind item.number item.says (behind_of items)
behind_at_end [] item = behind_alone item.number item.says
behind_at_end (i ∷ is) item = ap (behind_with i.number i.says) (behind_at_end is item) ∙ behind_step i.number i.says item.number item.says (behind_of is)

-- ---- heads and devices

heads_pushed : (line : Option ConfigLine) (heads : List Head) → heads ++ head_before line [] ≡ heads_with line heads
heads_pushed None heads = append-nil heads
heads_pushed (Some (DeviceLine device)) heads = append-nil heads
heads_pushed (Some (HeadLine text)) heads = refl
heads_pushed (Some (TileLine tile)) heads = append-nil heads
heads_pushed (Some (ArcOf sink source)) heads = append-nil heads
heads_pushed (Some (WordOf name bits)) heads = append-nil heads
heads_pushed (Some (EnumOf name value)) heads = append-nil heads
heads_pushed (Some (UnknownOf frame bit)) heads = append-nil heads
heads_pushed (Some OutsideLine) heads = append-nil heads

head_in_front : (line : Option ConfigLine) (heads more : List Head) → head_before line (heads ++ more) ≡ head_before line heads ++ more
head_in_front None heads more = refl
head_in_front (Some (DeviceLine device)) heads more = refl
head_in_front (Some (HeadLine text)) heads more = refl
head_in_front (Some (TileLine tile)) heads more = refl
head_in_front (Some (ArcOf sink source)) heads more = refl
head_in_front (Some (WordOf name bits)) heads more = refl
head_in_front (Some (EnumOf name value)) heads more = refl
head_in_front (Some (UnknownOf frame bit)) heads more = refl
head_in_front (Some OutsideLine) heads more = refl

heads_appended : (items : List Item) (item : Item) → heads_of (items ++ item ∷ []) ≡ heads_of items ++ head_before item.says []
heads_appended [] item = refl
heads_appended (i ∷ is) item = ap (head_before i.says) (heads_appended is item) ∙ head_in_front i.says (heads_of is) (head_before item.says [])

-- the heads of lines with one more at the end
heads_at_end : (items : List Item) (item : Item) → heads_of (items ++ item ∷ []) ≡ heads_with item.says (heads_of items)
heads_at_end items item = heads_appended items item ∙ heads_pushed item.says (heads_of items)

device_pushed : (n : ℕ) (line : Option ConfigLine) (devices : List (List ℕ)) → devices ++ devices_of (record { number = n; says = line } ∷ []) ≡ devices_with line devices
device_pushed n None devices = append-nil devices
device_pushed n (Some (DeviceLine device)) devices = refl
device_pushed n (Some (HeadLine text)) devices = append-nil devices
device_pushed n (Some (TileLine tile)) devices = append-nil devices
device_pushed n (Some (ArcOf sink source)) devices = append-nil devices
device_pushed n (Some (WordOf name bits)) devices = append-nil devices
device_pushed n (Some (EnumOf name value)) devices = append-nil devices
device_pushed n (Some (UnknownOf frame bit)) devices = append-nil devices
device_pushed n (Some OutsideLine) devices = append-nil devices

-- the devices that lines with one more at the end name
devices_at_end : (items : List Item) (item : Item) → devices_of (items ++ item ∷ []) ≡ devices_with item.says (devices_of items)
devices_at_end items item = filter_map-append (λ (i : Item). device_in i.says) items (item ∷ []) ∙ device_pushed item.number item.says (devices_of items)

-- ---- all lines

-- what lines say together
abbrev pub read_as : List Item → Reading
read_as items = record { devices = devices_of items; heads = heads_of items; sections = sections_of items }

three : (ds ds2 : List (List ℕ)) (hs hs2 : List Head) (ts ts2 : List TileText) → ds ≡ ds2 → hs ≡ hs2 → ts ≡ ts2
    → ◌≡◌ {A = Reading} (record { devices = ds; heads = hs; sections = ts }) (record { devices = ds2; heads = hs2; sections = ts2 })
three ds ds2 hs hs2 ts ts2 p q r =
    ap (λ (x : List (List ℕ)). let a : Reading = record { devices = x; heads = hs; sections = ts } in a) p
    ∙ ap (λ (x : List Head). let a : Reading = record { devices = ds2; heads = x; sections = ts } in a) q
    ∙ ap (λ (x : List TileText). let a : Reading = record { devices = ds2; heads = hs2; sections = x } in a) r

read_at_end : (items : List Item) (item : Item) → read_as (items ++ item ∷ []) ≡ with_says item.number item.says (read_as items)
read_at_end items item =
    three _ _ _ _ _ _ (devices_at_end items item) (heads_at_end items item) (ap (λ (b : Behind). b.sections) (behind_at_end items item))

same_fault : (n : ℕ) (before : List Item) (line : Option ConfigLine) → says_fault n before line ≡ fault_behind n (read_as before) line
same_fault n before None = refl
same_fault n before (Some (DeviceLine device)) = refl
same_fault n before (Some (HeadLine text)) = refl
same_fault n before (Some (TileLine tile)) = refl
same_fault n before (Some (ArcOf sink source)) = refl
same_fault n before (Some (WordOf name bits)) = refl
same_fault n before (Some (EnumOf name value)) = refl
same_fault n before (Some (UnknownOf frame bit)) = refl
same_fault n before (Some OutsideLine) = refl

-- what is read behind lines that aren't passed over, or the first fault
read_items : Reading → List Item → Result Reading ConfigFault
read_items r [] = Ok r
read_items r (item ∷ items) = go_on (item_step r item) (λ next. read_items next items)

go_on_at : (fault later : Option ConfigFault) (r all : Reading) (next : Reading → Result Reading ConfigFault)
    → next r ≡ or_fault later all → go_on (or_fault fault r) next ≡ or_fault (or_else fault later) all
go_on_at None later r all next h = h
go_on_at (Some fault) later r all next h = refl

-- reading on behind some lines
read_on : (front items : List Item) → read_items (read_as front) items ≡ or_fault (first_fault_after item_fault front items) (read_as (front ++ items))
unfolding read_items
read_on front [] = ap (λ items. Ok (read_as items)) (sym (append-nil front))
read_on front (item ∷ items) =
    ap (λ fault. go_on (or_fault fault (with_says item.number item.says (read_as front))) (λ next. read_items next items)) (sym (same_fault item.number front item.says))
    ∙ go_on_at (item_fault front item) (first_fault_after item_fault (front ++ item ∷ []) items) (with_says item.number item.says (read_as front)) (read_as (front ++ item ∷ items)) (λ next. read_items next items)
    (ap (λ r. read_items r items) (sym (read_at_end front item)) ∙ read_on (front ++ item ∷ []) items
    ∙ ap (λ all. or_fault (first_fault_after item_fault (front ++ item ∷ []) items) (read_as all)) (append_assoc front (item ∷ []) items))

line_at : (skipped : Bool) (r : Reading) (item : Item) (lines : List Line)
    → go_on (cond skipped (Ok r) (item_step r item)) (λ next. read_items next (map item_of (filter (λ line. not (is_skipped (words_in line))) lines)))
    ≡ read_items r (cond (not skipped) (item ∷ map item_of (filter (λ line. not (is_skipped (words_in line))) lines)) (map item_of (filter (λ line. not (is_skipped (words_in line))) lines)))
unfolding read_items
line_at true r item lines = refl
line_at false r item lines = refl

same_next : (r : Result Reading ConfigFault) (f g : Reading → Result Reading ConfigFault) → ((r : Reading) → f r ≡ g r) → go_on r f ≡ go_on r g
same_next (Ok r) f g h = h r
same_next (Err fault) f g h = refl

map_kept : (b : Bool) (line : Line) (lines : List Line) → map item_of (cond b (line ∷ lines) lines) ≡ cond b (item_of line ∷ map item_of lines) (map item_of lines)
map_kept true line lines = refl
map_kept false line lines = refl

-- lines that are passed over change nothing
lines_as_items : (r : Reading) (lines : List Line) → read_lines r lines ≡ read_items r (map item_of (filter (λ line. not (is_skipped (words_in line))) lines))
unfolding read_items
lines_as_items r [] = refl
lines_as_items r (line ∷ lines) =
    let kept = filter (λ line. not (is_skipped (words_in line))) lines in
    same_next (line_step r line) (λ next. read_lines next lines) (λ next. read_items next (map item_of kept)) (λ next. lines_as_items next lines)
    ∙ line_at (is_skipped (words_in line)) r (item_of line) lines
    ∙ ap (read_items r) (sym (map_kept (not (is_skipped (words_in line))) line kept))

with_device_read : (items : List Item) (devices : List (List ℕ)) → with_device items devices ≡ config_with (read_as items) devices
with_device_read items [] = refl
with_device_read items (device ∷ more) = refl

with_config : (fault : Option ConfigFault) (items : List Item) → go_on (or_fault fault (read_as items)) config_read ≡ fault_or fault (with_device items (devices_of items))
with_config None items = sym (with_device_read items (devices_of items))
with_config (Some fault) items = refl

-- a configuration is read line by line
pub read_by_lines : (text : List ℕ) → configuration_of text ≡ go_on (read_lines nothing_read (lines_of text)) config_read
read_by_lines text =
    sym (ap (λ r. go_on r config_read) (lines_as_items nothing_read (lines_of text) ∙ read_on [] (items_of text)) ∙ with_config (first_fault item_fault (items_of text)) (items_of text))
