-- The text of a configuration of the form that is read says what the configuration does.
use Rattle.std.proofs.Common.{◌≡◌, ◌<◌, ℕ, Bool, true, false, not, cond, ◌==◌, inl, inr, List, [], ◌∷◌, ◌++◌, length, map, filter, flat_map, Option, Some, None, refl, sym, ap, ap₂, subst, ◌∙◌, arith, append_assoc, length-append}
use Rattle.std.specs.Prelude.{codes}
use Rattle.std.specs.List.{list_any}
use Rattle.std.proofs.lemmas.Bool.{eqb-true}
use Rattle.std.proofs.lemmas.List.{map-append}
use Rattle.std.proofs.lemmas.List.Concat.{flat_map-append}
use Rattle.words.specs.Members.{In}
use Rattle.records.specs.Config.{Head, ArcLine, WordLine, EnumLine, UnknownLine, TileText, Config}
use Rattle.texts.specs.Lines.{Line, lines_of}
use Rattle.texts.specs.Parts.{no_line_feed}
use Rattle.texts.specs.Printing.{line_of}
use Rattle.links.proofs.Members.{in_either, of_map, of_flat_map}
use Rattle.config_grammar.specs.ConfigLines.{ConfigLine, DeviceLine, HeadLine, TileLine, ArcOf, WordOf, EnumOf, UnknownOf, OutsideLine, without_blanks, says_words, begins_outside, is_return, says, is_skipped, words_in}
use Rattle.config_grammar.specs.ConfigPrint.{arc_text, word_text, enum_text, unknown_text, lines_text, section_with, section_text, head_text, config_text}
use Rattle.config_grammar.specs.ConfigText.{item_of, items_of}
use Rattle.text_laws.specs.Printed.{lined, AreOneLine, printed_line, said_in, section_says, said_by}
use Rattle.text_laws.specs.Formed.{CanStand, IsFormedSection, IsFormedText}
use Rattle.text_laws.proofs.TextLines.{lines_back, word_texts, words_are}
use Rattle.text_laws.proofs.Sayings.{says_text, says_printed, printed_bytes}

-- ---- a text of lines that say something, and empty ones

abbrev text_of : Option ConfigLine → List ℕ
text_of None = []
text_of (Some line) = printed_line line

-- the text of some lines
abbrev texts : List (Option ConfigLine) → List ℕ
texts os = flat_map (λ o. text_of o ++ 10 ∷ []) os

texts_lined : (os : List (Option ConfigLine)) → texts os ≡ lined (map text_of os)
texts_lined [] = refl
texts_lined (o ∷ os) = ap (λ t. (text_of o ++ 10 ∷ []) ++ t) (texts_lined os)

abbrev all_there : List ConfigLine → List (Option ConfigLine)
all_there lines = map (λ line. Some line) lines

-- the lines of a section, behind an empty one
abbrev section_lines : List ℕ → List ConfigLine → List (Option ConfigLine)
section_lines name [] = []
section_lines name (line ∷ lines) = None ∷ Some (TileLine name) ∷ Some line ∷ all_there lines

abbrev tile_lines : TileText → List (Option ConfigLine)
tile_lines t = section_lines t.tile (said_in t)

-- the lines of a configuration
abbrev config_lines : Config → List (Option ConfigLine)
config_lines c = Some (DeviceLine c.device) ∷ (all_there (map (λ h. HeadLine h.text) c.heads) ++ flat_map tile_lines c.tiles)

-- ---- the text of a configuration is that of its lines

texts_joined : (xs ys : List (Option ConfigLine)) → texts (xs ++ ys) ≡ texts xs ++ texts ys
texts_joined xs ys = flat_map-append (λ o. text_of o ++ 10 ∷ []) xs ys

-- things that are printed each on its line
mapped_texts : {X : Type 0} (print : X → List ℕ) (line : X → ConfigLine) → ((x : X) → print x ≡ printed_line (line x) ++ 10 ∷ []) → (xs : List X) → flat_map print xs ≡ texts (all_there (map line xs))
mapped_texts print line same [] = refl
mapped_texts print line same (x ∷ xs) = ap₂ (λ (a b : List ℕ). a ++ b) (same x) (mapped_texts print line same xs)

both_texts : (a b : List ℕ) (xs ys : List ConfigLine) → a ≡ texts (all_there xs) → b ≡ texts (all_there ys) → a ++ b ≡ texts (all_there (xs ++ ys))
both_texts a b xs ys e f =
    ap₂ (λ (s t : List ℕ). s ++ t) e f ∙ sym (texts_joined (all_there xs) (all_there ys)) ∙ ap texts (sym (map-append (λ line. Some line) xs ys))

lines_are : (t : TileText) → lines_text t ≡ texts (all_there (said_in t))
lines_are t =
    let arcs = map (λ (a : ArcLine). ArcOf a.sink a.source) t.arcs in
    let words = map (λ (w : WordLine). WordOf w.name w.bits) t.words in
    let enums = map (λ (e : EnumLine). EnumOf e.name e.value) t.enums in
    let unknowns = map (λ (u : UnknownLine). UnknownOf u.frame u.bit) t.unknowns in
    let a = mapped_texts arc_text (λ (a : ArcLine). ArcOf a.sink a.source) (λ x. refl) t.arcs in
    let w = mapped_texts word_text (λ (w : WordLine). WordOf w.name w.bits) (λ x. refl) t.words in
    let e = mapped_texts enum_text (λ (e : EnumLine). EnumOf e.name e.value) (λ x. refl) t.enums in
    let u = mapped_texts unknown_text (λ (u : UnknownLine). UnknownOf u.frame u.bit) (λ x. refl) t.unknowns in
    both_texts (flat_map arc_text t.arcs ++ flat_map word_text t.words ++ flat_map enum_text t.enums) (flat_map unknown_text t.unknowns) (arcs ++ words ++ enums) unknowns
    (both_texts (flat_map arc_text t.arcs ++ flat_map word_text t.words) (flat_map enum_text t.enums) (arcs ++ words) enums
    (both_texts (flat_map arc_text t.arcs) (flat_map word_text t.words) arcs words a w) e) u

-- a section that has lines
with_lines : (name text : List ℕ) → 0 < length text → section_with name text ≡ (codes "\n" ++ line_of (codes ".tile") (name ∷ [])) ++ text
with_lines name [] h = absurd (omega arith)
with_lines name (b ∷ bs) h = refl

section_is : (name : List ℕ) (lines : List ConfigLine) → section_with name (texts (all_there lines)) ≡ texts (section_lines name lines)
section_is name [] = refl
section_is name (line ∷ lines) =
    let rest = texts (all_there lines) in
    with_lines name ((printed_line line ++ 10 ∷ []) ++ rest) (omega (arith, length-append (printed_line line ++ 10 ∷ []) rest, length-append (printed_line line) (10 ∷ [])))

tile_is : (t : TileText) → section_text t ≡ texts (tile_lines t)
tile_is t = ap (section_with t.tile) (lines_are t) ∙ section_is t.tile (said_in t)

tiles_are : (ts : List TileText) → flat_map section_text ts ≡ texts (flat_map tile_lines ts)
tiles_are [] = refl
tiles_are (t ∷ ts) = ap₂ (λ (a b : List ℕ). a ++ b) (tile_is t) (tiles_are ts) ∙ sym (texts_joined (tile_lines t) (flat_map tile_lines ts))

config_is : (c : Config) → config_text c ≡ texts (config_lines c)
config_is c =
    let device = line_of (codes ".device") (c.device ∷ []) in
    let heads = flat_map head_text c.heads in
    let tiles = flat_map section_text c.tiles in
    append_assoc device heads tiles
    ∙ ap (λ t. device ++ t)
    (ap₂ (λ (a b : List ℕ). a ++ b) (mapped_texts head_text (λ (h : Head). HeadLine h.text) (λ h. refl) c.heads) (tiles_are c.tiles)
    ∙ sym (texts_joined (all_there (map (λ h. HeadLine h.text) c.heads)) (flat_map tile_lines c.tiles)))

-- ---- the lines of the text

abbrev AllStand : List (Option ConfigLine) → Type 0
AllStand os = (line : ConfigLine) → In os (Some line) → CanStand line

one_line_each : (os : List (Option ConfigLine)) → AllStand os → AreOneLine (map text_of os)
one_line_each os h text i = (let m = of_map text_of os text i in go m.0 m.1.0 m.1.1)
  where
    go : (o : Option ConfigLine) → In os o → text_of o ≡ text → (no_line_feed text ≡ true) × (list_any is_return text ≡ false)
    go None j e = subst (λ t. (no_line_feed t ≡ true) × (list_any is_return t ≡ false)) e (refl, refl)
    go (Some line) j e = subst (λ t. (no_line_feed t ≡ true) × (list_any is_return t ≡ false)) e (printed_bytes line (h line j))

-- the lines that say something
abbrev there : List (Option ConfigLine) → List ConfigLine
there [] = []
there (None ∷ os) = there os
there (Some line ∷ os) = line ∷ there os

-- a line that says something isn't passed over
hash_says_nothing : (text bytes : List ℕ) (rest : List (List ℕ)) → says_words text ((35 ∷ bytes) ∷ rest) ≡ None
hash_says_nothing text bytes [] = refl
hash_says_nothing text bytes (b ∷ []) = refl
hash_says_nothing text bytes (b ∷ c ∷ []) = refl
hash_says_nothing text bytes (b ∷ c ∷ d ∷ rest) = refl

not_passed_over : (text : List ℕ) (words : List (List ℕ)) (line : ConfigLine) → says_words text words ≡ Some line → is_skipped words ≡ false
not_passed_over text [] line h = absurd (let no : ⊥ = cc in no)
not_passed_over text ([] ∷ rest) line h = refl
not_passed_over text ((b ∷ bs) ∷ rest) line h = go (b == 35) refl
  where
    go : (t : Bool) → b == 35 ≡ t → b == 35 ≡ false
    go true e = absurd (let none : says_words text ((b ∷ bs) ∷ rest) ≡ None = subst (λ x. says_words text ((x ∷ bs) ∷ rest) ≡ None) (sym (eqb-true b 35 e)) (hash_says_nothing text bs rest) in let no : ⊥ = cc in no)
    go false e = e

says_words_of : (r o : Bool) (x : Option ConfigLine) (s : ConfigLine) → cond r None (cond o (Some OutsideLine) x) ≡ Some s → CanStand s → x ≡ Some s
says_words_of true o x s h k = absurd (let no : ⊥ = cc in no)
says_words_of false true x s h k = absurd (let same : s ≡ OutsideLine = cc in subst CanStand same k)
says_words_of false false x s h k = h

printed_not_skipped : (line : ConfigLine) → CanStand line → is_skipped (word_texts (printed_line line)) ≡ false
printed_not_skipped line h =
    let text = printed_line line in
    let words = word_texts text in
    not_passed_over (without_blanks text) words line (says_words_of (list_any is_return text) (begins_outside words) (says_words (without_blanks text) words) line (says_printed line h) h)

-- a line that stands for an item
abbrev is_item : Line → Bool
is_item line = not (is_skipped (words_in line))

items_say : (os : List (Option ConfigLine)) (ls : List Line) → map (λ l. l.text) ls ≡ map text_of os → AllStand os → map (λ i. i.says) (map item_of (filter is_item ls)) ≡ map (λ s. Some s) (there os)
items_say [] [] e h = refl
items_say [] (l ∷ ls) e h = absurd (let no : ⊥ = cc in no)
items_say (o ∷ os) [] e h = absurd (let no : ⊥ = cc in no)
items_say (None ∷ os) (l ∷ ls) e h =
    let first : l.text ≡ [] = cc in
    let later : map (λ l. l.text) ls ≡ map text_of os = cc in
    let skipped : is_item l ≡ false = ap (λ ws. not (is_skipped ws)) (words_are l ∙ ap word_texts first) in
    ap (λ b. map (λ i. i.says) (map item_of (cond b (l ∷ filter is_item ls) (filter is_item ls)))) skipped ∙ items_say os ls later (λ line i. h line (inr i))
items_say (Some line ∷ os) (l ∷ ls) e h =
    let first : l.text ≡ printed_line line = cc in
    let later : map (λ l. l.text) ls ≡ map text_of os = cc in
    let stands = h line (inl refl) in
    let kept : is_item l ≡ true = ap (λ ws. not (is_skipped ws)) (words_are l ∙ ap word_texts first) ∙ ap not (printed_not_skipped line stands) in
    let said : says l.text (words_in l) ≡ Some line = ap (says l.text) (words_are l) ∙ ap says_text first ∙ says_printed line stands in
    ap (λ b. map (λ i. i.says) (map item_of (cond b (l ∷ filter is_item ls) (filter is_item ls)))) kept
    ∙ ap₂ (λ (s : Option ConfigLine) ss. s ∷ ss) said (items_say os ls later (λ line i. h line (inr i)))

-- ---- the lines of a configuration can stand in a text, and they are what it says

there_joined : (xs ys : List (Option ConfigLine)) → there (xs ++ ys) ≡ there xs ++ there ys
there_joined [] ys = refl
there_joined (None ∷ xs) ys = there_joined xs ys
there_joined (Some x ∷ xs) ys = ap (λ l. x ∷ l) (there_joined xs ys)

there_all : (xs : List ConfigLine) → there (all_there xs) ≡ xs
there_all [] = refl
there_all (x ∷ xs) = ap (λ l. x ∷ l) (there_all xs)

there_section : (name : List ℕ) (lines : List ConfigLine) → there (section_lines name lines) ≡ section_says name lines
there_section name [] = refl
there_section name (line ∷ lines) = ap (λ l. TileLine name ∷ line ∷ l) (there_all lines)

there_tiles : (ts : List TileText) → there (flat_map tile_lines ts) ≡ flat_map (λ t. section_says t.tile (said_in t)) ts
there_tiles [] = refl
there_tiles (t ∷ ts) = there_joined (tile_lines t) (flat_map tile_lines ts) ∙ ap₂ (λ (a b : List ConfigLine). a ++ b) (there_section t.tile (said_in t)) (there_tiles ts)

there_config : (c : Config) → there (config_lines c) ≡ said_by c
there_config c =
    let heads = map (λ (h : Head). HeadLine h.text) c.heads in
    ap (λ l. DeviceLine c.device ∷ l)
    (there_joined (all_there heads) (flat_map tile_lines c.tiles) ∙ ap₂ (λ (a b : List ConfigLine). a ++ b) (there_all heads) (there_tiles c.tiles))

-- what holds of the lines that things are printed as
of_mapped : {X : Type 0} (line : X → ConfigLine) (xs : List X) → ((x : X) → In xs x → CanStand (line x)) → (l : ConfigLine) → In (map line xs) l → CanStand l
of_mapped line xs h l i = let m = of_map line xs l i in subst CanStand m.1.1 (h m.0 m.1.0)

of_either : (xs ys : List ConfigLine) → ((l : ConfigLine) → In xs l → CanStand l) → ((l : ConfigLine) → In ys l → CanStand l) → (l : ConfigLine) → In (xs ++ ys) l → CanStand l
of_either xs ys h k l i = elim (in_either xs ys l i) [ inl j ↦ h l j | inr j ↦ k l j ]

in_all_there : (lines : List ConfigLine) (l : ConfigLine) → In (all_there lines) (Some l) → In lines l
in_all_there [] l i = i
in_all_there (x ∷ xs) l i = elim i [ inl e ↦ inl (let same : x ≡ l = cc in same) | inr j ↦ inr (in_all_there xs l j) ]

said_in_stands : (t : TileText) → IsFormedSection t → (l : ConfigLine) → In (said_in t) l → CanStand l
said_in_stands t h =
    let arcs = map (λ (a : ArcLine). ArcOf a.sink a.source) t.arcs in
    let words = map (λ (w : WordLine). WordOf w.name w.bits) t.words in
    let enums = map (λ (e : EnumLine). EnumOf e.name e.value) t.enums in
    let unknowns = map (λ (u : UnknownLine). UnknownOf u.frame u.bit) t.unknowns in
    of_either (arcs ++ words ++ enums) unknowns
    (of_either (arcs ++ words) enums
    (of_either arcs words (of_mapped (λ (a : ArcLine). ArcOf a.sink a.source) t.arcs h.lines.arcs) (of_mapped (λ (w : WordLine). WordOf w.name w.bits) t.words h.lines.words))
    (of_mapped (λ (e : EnumLine). EnumOf e.name e.value) t.enums h.lines.enums)) (of_mapped (λ (u : UnknownLine). UnknownOf u.frame u.bit) t.unknowns h.lines.unknowns)

no_some : (l : ConfigLine) → None ≡ Some l → ⊥
no_some l e = cc

section_stands : (name : List ℕ) (lines : List ConfigLine) → CanStand (TileLine name) → ((l : ConfigLine) → In lines l → CanStand l) → AllStand (section_lines name lines)
section_stands name [] k h l i = absurd i
section_stands name (line ∷ lines) k h l i = elim i [
  | inl e ↦ absurd (no_some l e)
  | inr j ↦ elim j [ inl e ↦ (let same : TileLine name ≡ l = cc in subst CanStand same k) | inr m ↦ h l (in_all_there (line ∷ lines) l m) ]
]

config_stands : (c : Config) → IsFormedText c → AllStand (config_lines c)
config_stands c h l i = elim i [
  | inl e ↦ (let same : DeviceLine c.device ≡ l = cc in subst CanStand same h.device)
  | inr j ↦ elim (in_either (all_there (map (λ h. HeadLine h.text) c.heads)) (flat_map tile_lines c.tiles) (Some l) j) [
    | inl m ↦ of_mapped (λ (x : Head). HeadLine x.text) c.heads h.heads l (in_all_there (map (λ h. HeadLine h.text) c.heads) l m)
    | inr m ↦ (let f = of_flat_map tile_lines c.tiles (Some l) m in section_stands f.0.tile (said_in f.0) (h.sections f.0 f.1.0).name (said_in_stands f.0 (h.sections f.0 f.1.0)) l f.1.1)
  ]
]

-- ---- the whole text

pub printed_says : (c : Config) → IsFormedText c → map (λ item. item.says) (items_of (config_text c)) ≡ map (λ said. Some said) (said_by c)
printed_says c formed =
    let os = config_lines c in
    let stand = config_stands c formed in
    let lines : map (λ l. l.text) (lines_of (config_text c)) ≡ map text_of os =
    ap (λ t. map (λ (l : Line). l.text) (lines_of t)) (config_is c ∙ texts_lined os) ∙ lines_back (map text_of os) (one_line_each os stand) in
    items_say os (lines_of (config_text c)) lines stand ∙ ap (map (λ s. Some s)) (there_config c)
