-- The device, the heads and the sections that the text of a configuration says.
use Rattle.std.proofs.Common.{◌≡◌, ℕ, Bool, true, false, List, [], ◌∷◌, ◌++◌, map, filter, flat_map, Option, Some, None, cond, refl, sym, ap, ap₂, ◌∙◌, append-nil, append_assoc}
use Rattle.std.specs.List.{cons_option}
use Rattle.std.proofs.lemmas.List.{map-append}
use Rattle.records.specs.Config.{Head, ArcLine, WordLine, EnumLine, UnknownLine, TileText, Config}
use Rattle.config_grammar.specs.ConfigLines.{ConfigLine, DeviceLine, HeadLine, TileLine, ArcOf, WordOf, EnumOf, UnknownOf, OutsideLine}
use Rattle.config_grammar.specs.ConfigPrint.{config_text}
use Rattle.config_grammar.specs.ConfigText.{items_of, devices_of}
use Rattle.config_grammar.specs.Sections.{Item, no_lines, Behind, behind_with, behind_of, sections_of, head_before, heads_of, device_in}
use Rattle.text_laws.specs.Printed.{said_in, section_says, said_by}
use Rattle.text_laws.specs.Formed.{IsFormedText}
use Rattle.text_laws.specs.SameButLines.{unnumbered_arc, unnumbered_word, unnumbered_enum, unnumbered_unknown, unnumbered, has_lines}
use Rattle.text_laws.proofs.ConfigPrinted.{printed_says}

-- ---- what lines say, whatever their numbers

-- an item with number 0
abbrev bare : Option ConfigLine → Item
bare o = record { number = 0; says = o }

abbrev bare_lines : List ConfigLine → List Item
bare_lines lines = map (λ line. bare (Some line)) lines

abbrev bare_item : Item → Item
bare_item i = bare i.says

bared : (items : List Item) → map bare_item items ≡ map bare (map (λ i. i.says) items)
bared [] = refl
bared (i ∷ is) = ap (λ l. bare i.says ∷ l) (bared is)

bare_map : (lines : List ConfigLine) → map bare (map (λ line. Some line) lines) ≡ bare_lines lines
bare_map [] = refl
bare_map (l ∷ ls) = ap (λ is. bare (Some l) ∷ is) (bare_map ls)

bare_says : (items : List Item) (lines : List ConfigLine) → map (λ i. i.says) items ≡ map (λ line. Some line) lines → map bare_item items ≡ bare_lines lines
bare_says items lines e = bared items ∙ ap (map bare) e ∙ bare_map lines

bare_heads : (items : List Item) → heads_of items ≡ heads_of (map bare_item items)
bare_heads [] = refl
bare_heads (i ∷ is) = ap (head_before i.says) (bare_heads is)

bare_devices : (items : List Item) → devices_of items ≡ devices_of (map bare_item items)
bare_devices [] = refl
bare_devices (i ∷ is) = ap (cons_option (device_in i.says)) (bare_devices is)

-- what stands behind a line, without numbers
abbrev unnumbered_behind : Behind → Behind
unnumbered_behind b = record { inside = unnumbered b.inside; sections = map unnumbered b.sections }

bare_step : (n : ℕ) (o : Option ConfigLine) (b : Behind) → unnumbered_behind (behind_with n o b) ≡ behind_with 0 o (unnumbered_behind b)
bare_step n None b = refl
bare_step n (Some (DeviceLine name)) b = refl
bare_step n (Some (HeadLine text)) b = refl
bare_step n (Some (TileLine name)) b = refl
bare_step n (Some (ArcOf sink source)) b = refl
bare_step n (Some (WordOf name bits)) b = refl
bare_step n (Some (EnumOf name value)) b = refl
bare_step n (Some (UnknownOf frame bit)) b = refl
bare_step n (Some OutsideLine) b = refl

bare_behind : (items : List Item) → unnumbered_behind (behind_of items) ≡ behind_of (map bare_item items)
bare_behind [] = refl
bare_behind (i ∷ is) = bare_step i.number i.says (behind_of is) ∙ ap (behind_with 0 i.says) (bare_behind is)

-- ---- lines of things

bare_joined : (xs ys : List ConfigLine) → bare_lines (xs ++ ys) ≡ bare_lines xs ++ bare_lines ys
bare_joined xs ys = map-append (λ line. bare (Some line)) xs ys

-- lines that are no heads and name no device
mapped_heads : {X : Type 0} (line : X → ConfigLine) → ((x : X) (hs : List Head) → head_before (Some (line x)) hs ≡ hs) → (xs : List X) (rest : List Item) → heads_of (bare_lines (map line xs) ++ rest) ≡ heads_of rest
mapped_heads line same [] rest = refl
mapped_heads line same (x ∷ xs) rest = same x (heads_of (bare_lines (map line xs) ++ rest)) ∙ mapped_heads line same xs rest

mapped_devices : {X : Type 0} (line : X → ConfigLine) → ((x : X) → device_in (Some (line x)) ≡ None) → (xs : List X) (rest : List Item) → devices_of (bare_lines (map line xs) ++ rest) ≡ devices_of rest
mapped_devices line same [] rest = refl
mapped_devices line same (x ∷ xs) rest = ap (λ o. cons_option o (devices_of (bare_lines (map line xs) ++ rest))) (same x) ∙ mapped_devices line same xs rest

-- the lines of a section, part by part
abbrev in_parts : TileText → List Item → List Item
in_parts t rest =
    bare_lines (map (λ a. ArcOf a.sink a.source) t.arcs)
    ++ (bare_lines (map (λ w. WordOf w.name w.bits) t.words) ++ (bare_lines (map (λ e. EnumOf e.name e.value) t.enums) ++ (bare_lines (map (λ u. UnknownOf u.frame u.bit) t.unknowns) ++ rest)))

split_parts : (a w e u : List ConfigLine) (rest : List Item) → bare_lines (a ++ w ++ e ++ u) ++ rest ≡ bare_lines a ++ (bare_lines w ++ (bare_lines e ++ (bare_lines u ++ rest)))
split_parts a w e u rest =
    ap (λ l. l ++ rest) (bare_joined (a ++ w ++ e) u ∙ ap (λ l. l ++ bare_lines u) (bare_joined (a ++ w) e ∙ ap (λ l. l ++ bare_lines e) (bare_joined a w))) ∙ simp append_assoc

in_parts_are : (t : TileText) (rest : List Item) → bare_lines (said_in t) ++ rest ≡ in_parts t rest
in_parts_are t rest =
    split_parts (map (λ (a : ArcLine). ArcOf a.sink a.source) t.arcs) (map (λ (w : WordLine). WordOf w.name w.bits) t.words) (map (λ (e : EnumLine). EnumOf e.name e.value) t.enums)
    (map (λ (u : UnknownLine). UnknownOf u.frame u.bit) t.unknowns) rest

section_heads : (t : TileText) (rest : List Item) → heads_of (bare_lines (said_in t) ++ rest) ≡ heads_of rest
section_heads t rest =
    ap heads_of (in_parts_are t rest) ∙ mapped_heads (λ (a : ArcLine). ArcOf a.sink a.source) (λ x hs. refl) t.arcs _
    ∙ mapped_heads (λ (w : WordLine). WordOf w.name w.bits) (λ x hs. refl) t.words _
    ∙ mapped_heads (λ (e : EnumLine). EnumOf e.name e.value) (λ x hs. refl) t.enums _ ∙ mapped_heads (λ (u : UnknownLine). UnknownOf u.frame u.bit) (λ x hs. refl) t.unknowns rest

section_devices : (t : TileText) (rest : List Item) → devices_of (bare_lines (said_in t) ++ rest) ≡ devices_of rest
section_devices t rest =
    ap devices_of (in_parts_are t rest) ∙ mapped_devices (λ (a : ArcLine). ArcOf a.sink a.source) (λ x. refl) t.arcs _
    ∙ mapped_devices (λ (w : WordLine). WordOf w.name w.bits) (λ x. refl) t.words _
    ∙ mapped_devices (λ (e : EnumLine). EnumOf e.name e.value) (λ x. refl) t.enums _ ∙ mapped_devices (λ (u : UnknownLine). UnknownOf u.frame u.bit) (λ x. refl) t.unknowns rest

-- a section's line, where it has lines
says_heads : (name : List ℕ) (lines : List ConfigLine) (rest : List Item) → heads_of (bare_lines (section_says name lines) ++ rest) ≡ heads_of (bare_lines lines ++ rest)
says_heads name [] rest = refl
says_heads name (line ∷ lines) rest = refl

says_devices : (name : List ℕ) (lines : List ConfigLine) (rest : List Item) → devices_of (bare_lines (section_says name lines) ++ rest) ≡ devices_of (bare_lines lines ++ rest)
says_devices name [] rest = refl
says_devices name (line ∷ lines) rest = refl

abbrev tiles_say : List TileText → List ConfigLine
tiles_say ts = flat_map (λ t. section_says t.tile (said_in t)) ts

tiles_split : (t : TileText) (ts : List TileText) → bare_lines (tiles_say (t ∷ ts)) ≡ bare_lines (section_says t.tile (said_in t)) ++ bare_lines (tiles_say ts)
tiles_split t ts = bare_joined (section_says t.tile (said_in t)) (tiles_say ts)

tiles_heads : (ts : List TileText) → heads_of (bare_lines (tiles_say ts)) ≡ []
tiles_heads [] = refl
tiles_heads (t ∷ ts) =
    ap heads_of (tiles_split t ts) ∙ says_heads t.tile (said_in t) (bare_lines (tiles_say ts)) ∙ section_heads t (bare_lines (tiles_say ts)) ∙ tiles_heads ts

tiles_devices : (ts : List TileText) → devices_of (bare_lines (tiles_say ts)) ≡ []
tiles_devices [] = refl
tiles_devices (t ∷ ts) =
    ap devices_of (tiles_split t ts) ∙ says_devices t.tile (said_in t) (bare_lines (tiles_say ts)) ∙ section_devices t (bare_lines (tiles_say ts)) ∙ tiles_devices ts

heads_there : (hs : List Head) (rest : List Item) → heads_of (bare_lines (map (λ h. HeadLine h.text) hs) ++ rest) ≡ hs ++ heads_of rest
heads_there [] rest = refl
heads_there (h ∷ hs) rest = ap (λ l. h ∷ l) (heads_there hs rest)

-- ---- sections

arcs_behind : (arcs : List ArcLine) (rest : List Item)
    → behind_of (bare_lines (map (λ a. ArcOf a.sink a.source) arcs) ++ rest)
    ≡ (let b = behind_of rest in record { inside = record b.inside { arcs = map unnumbered_arc arcs ++ b.inside.arcs }; sections = b.sections })
arcs_behind [] rest = refl
arcs_behind (a ∷ more) rest = ap (behind_with 0 (Some (ArcOf a.sink a.source))) (arcs_behind more rest)

words_behind : (ws : List WordLine) (rest : List Item)
    → behind_of (bare_lines (map (λ w. WordOf w.name w.bits) ws) ++ rest)
    ≡ (let b = behind_of rest in record { inside = record b.inside { words = map unnumbered_word ws ++ b.inside.words }; sections = b.sections })
words_behind [] rest = refl
words_behind (w ∷ ws) rest = ap (behind_with 0 (Some (WordOf w.name w.bits))) (words_behind ws rest)

enums_behind : (es : List EnumLine) (rest : List Item)
    → behind_of (bare_lines (map (λ e. EnumOf e.name e.value) es) ++ rest)
    ≡ (let b = behind_of rest in record { inside = record b.inside { enums = map unnumbered_enum es ++ b.inside.enums }; sections = b.sections })
enums_behind [] rest = refl
enums_behind (e ∷ es) rest = ap (behind_with 0 (Some (EnumOf e.name e.value))) (enums_behind es rest)

unknowns_behind : (us : List UnknownLine) (rest : List Item)
    → behind_of (bare_lines (map (λ u. UnknownOf u.frame u.bit) us) ++ rest)
    ≡ (let b = behind_of rest in record { inside = record b.inside { unknowns = map unnumbered_unknown us ++ b.inside.unknowns }; sections = b.sections })
unknowns_behind [] rest = refl
unknowns_behind (u ∷ us) rest = ap (behind_with 0 (Some (UnknownOf u.frame u.bit))) (unknowns_behind us rest)

-- sections behind the lines of no section
abbrev only_sections : List TileText → Behind
only_sections ts = record { inside = no_lines 0 []; sections = ts }

-- the lines of a section, in front of other sections
abbrev lines_and : TileText → List TileText → Behind
lines_and t ts = record {
  inside = record { tile = []; line = 0; arcs = map unnumbered_arc t.arcs; words = map unnumbered_word t.words; enums = map unnumbered_enum t.enums; unknowns = map unnumbered_unknown t.unknowns };
  sections = ts;
}

section_behind : (t : TileText) (rest : List Item) (ts : List TileText) → behind_of rest ≡ only_sections ts → behind_of (bare_lines (said_in t) ++ rest) ≡ lines_and t ts
section_behind t rest ts e =
    let u = unknowns_behind t.unknowns rest ∙ ap (λ (b : Behind). let c : Behind = record { inside = record b.inside { unknowns = map unnumbered_unknown t.unknowns ++ b.inside.unknowns }; sections = b.sections } in c) e in
    let n = enums_behind t.enums (bare_lines (map (λ u. UnknownOf u.frame u.bit) t.unknowns) ++ rest)
    ∙ ap (λ (b : Behind). let c : Behind = record { inside = record b.inside { enums = map unnumbered_enum t.enums ++ b.inside.enums }; sections = b.sections } in c) u in
    let w = words_behind t.words (bare_lines (map (λ e. EnumOf e.name e.value) t.enums) ++ (bare_lines (map (λ u. UnknownOf u.frame u.bit) t.unknowns) ++ rest))
    ∙ ap (λ (b : Behind). let c : Behind = record { inside = record b.inside { words = map unnumbered_word t.words ++ b.inside.words }; sections = b.sections } in c) n in
    let a = arcs_behind t.arcs (bare_lines (map (λ w. WordOf w.name w.bits) t.words) ++ (bare_lines (map (λ e. EnumOf e.name e.value) t.enums) ++ (bare_lines (map (λ u. UnknownOf u.frame u.bit) t.unknowns) ++ rest)))
    ∙ ap (λ (b : Behind). let c : Behind = record { inside = record b.inside { arcs = map unnumbered_arc t.arcs ++ b.inside.arcs }; sections = b.sections } in c) w in
    ap behind_of (in_parts_are t rest) ∙ a
    ∙ ap₂ (λ (x : List ArcLine × List WordLine) (y : List EnumLine × List UnknownLine). let c : Behind = record { inside = record { tile = []; line = 0; arcs = x.0; words = x.1; enums = y.0; unknowns = y.1 }; sections = ts } in c)
    (ap₂ (λ (x : List ArcLine) (y : List WordLine). let p : List ArcLine × List WordLine = (x, y) in p) (append-nil (map unnumbered_arc t.arcs)) (append-nil (map unnumbered_word t.words)))
    (ap₂ (λ (x : List EnumLine) (y : List UnknownLine). let p : List EnumLine × List UnknownLine = (x, y) in p) (append-nil (map unnumbered_enum t.enums)) (append-nil (map unnumbered_unknown t.unknowns)))

abbrev pub says_some : List ConfigLine → Bool
says_some [] = false
says_some (line ∷ lines) = true

-- whether lines of four kinds are some, by what they say
some_lines : (arcs : List ArcLine) (ws : List WordLine) (es : List EnumLine) (us : List UnknownLine) (tile : List ℕ) (line : ℕ) → let t : TileText = record { tile = tile; line = line; arcs = arcs; words = ws; enums = es; unknowns = us } in has_lines t ≡ says_some (said_in t)
some_lines (a ∷ more) ws es us tile line = refl
some_lines [] (w ∷ ws) es us tile line = refl
some_lines [] [] (e ∷ es) us tile line = refl
some_lines [] [] [] (u ∷ us) tile line = refl
some_lines [] [] [] [] tile line = refl

-- whether a section has lines, by what they say
pub has_some : (t : TileText) → has_lines t ≡ says_some (said_in t)
has_some t = some_lines t.arcs t.words t.enums t.unknowns t.tile t.line

tile_behind : (t : TileText) (rest : List Item) (ts : List TileText) (lines : List ConfigLine) → said_in t ≡ lines → has_lines t ≡ says_some lines → behind_of rest ≡ only_sections ts
    → behind_of (bare_lines (section_says t.tile lines) ++ rest) ≡ only_sections (cond (has_lines t) (unnumbered t ∷ ts) ts)
tile_behind t rest ts [] is has e = e ∙ ap (λ b. only_sections (cond b (unnumbered t ∷ ts) ts)) (sym has)
tile_behind t rest ts (line ∷ lines) is has e =
    ap (behind_with 0 (Some (TileLine t.tile))) (ap (λ ls. behind_of (bare_lines ls ++ rest)) (sym is) ∙ section_behind t rest ts e)
    ∙ ap (λ b. only_sections (cond b (unnumbered t ∷ ts) ts)) (sym has)

kept_sections : (b : Bool) (t : TileText) (ts : List TileText) → only_sections (cond b (unnumbered t ∷ map unnumbered ts) (map unnumbered ts)) ≡ only_sections (map unnumbered (cond b (t ∷ ts) ts))
kept_sections true t ts = refl
kept_sections false t ts = refl

tiles_behind : (ts : List TileText) → behind_of (bare_lines (tiles_say ts)) ≡ only_sections (map unnumbered (filter has_lines ts))
tiles_behind [] = refl
tiles_behind (t ∷ ts) =
    ap behind_of (tiles_split t ts)
    ∙ tile_behind t (bare_lines (tiles_say ts)) (map unnumbered (filter has_lines ts)) (said_in t) refl (has_some t) (tiles_behind ts)
    ∙ kept_sections (has_lines t) t (filter has_lines ts)

heads_behind : (hs : List Head) (rest : List Item) → behind_of (bare_lines (map (λ h. HeadLine h.text) hs) ++ rest) ≡ behind_of rest
heads_behind [] rest = refl
heads_behind (h ∷ hs) rest = heads_behind hs rest

-- ---- the text of a configuration

module _ (c : Config) (formed : IsFormedText c) where
  abbrev its_items : List Item
  its_items = items_of (config_text c)

  abbrev its_heads : List ConfigLine
  its_heads = map (λ h. HeadLine h.text) c.heads

  bared_items : map bare_item its_items ≡ bare_lines (said_by c)
  bared_items = bare_says its_items (said_by c) (printed_says c formed)

  pub its_heads_are : heads_of its_items ≡ c.heads
  its_heads_are =
      bare_heads its_items ∙ ap heads_of bared_items ∙ ap heads_of (bare_joined its_heads (tiles_say c.tiles)) ∙ heads_there c.heads (bare_lines (tiles_say c.tiles))
      ∙ ap (λ l. c.heads ++ l) (tiles_heads c.tiles) ∙ append-nil c.heads

  pub its_device_is : devices_of its_items ≡ c.device ∷ []
  its_device_is =
      bare_devices its_items ∙ ap devices_of bared_items
      ∙ ap (λ l. c.device ∷ l)
      (ap devices_of (bare_joined its_heads (tiles_say c.tiles)) ∙ mapped_devices (λ (h : Head). HeadLine h.text) (λ h. refl) c.heads (bare_lines (tiles_say c.tiles)) ∙ tiles_devices c.tiles)

  pub its_sections_are : map unnumbered (sections_of its_items) ≡ map unnumbered (filter has_lines c.tiles)
  its_sections_are =
      ap (λ (b : Behind). b.sections)
      (bare_behind its_items ∙ ap behind_of bared_items ∙ ap behind_of (bare_joined its_heads (tiles_say c.tiles)) ∙ heads_behind c.heads (bare_lines (tiles_say c.tiles)) ∙ tiles_behind c.tiles)
