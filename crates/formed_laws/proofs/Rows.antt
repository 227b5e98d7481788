-- Each row of a database keeps that nothing is named twice.
use Rattle.std.proofs.Common.{◌≡◌, ℕ, Bool, true, false, List, [], ◌∷◌, ◌++◌, map, Option, Some, None, refl, sym, ap, subst, ◌∙◌}
use Rattle.std.specs.Prelude.{Result, Ok, Err, if◌then◌else◌}
use Rattle.std.specs.List.{list_any}
use Rattle.std.specs.Str.{bytes_eq}
use Rattle.std.proofs.lemmas.Bool.{false≢true}
use Rattle.std.proofs.lemmas.Slice.Eq.{bytes_eq-Decides}
use Rattle.words.specs.Members.{In}
use Rattle.words.specs.Firsts.{unless_fault}
use Rattle.words.specs.Twice.{HasNoneTwice}
use Rattle.patterns.specs.Bits.{PatternBit}
use Rattle.records.specs.Database.{Arc, Mux, WordSetting, EnumOption, EnumSetting, TileDb}
use Rattle.texts.specs.Lines.{Line}
use Rattle.grammars.specs.Rows.{has_words}
use Rattle.grammars.specs.BitsDb.{DbFault, BadLine, some_if, Head, MuxHead, WordHead, EnumHead, FixedHead, head_of, arc_of, bits_of, option_of, has_sink, has_source, has_word, has_enum, has_value, head_fault, last_of, entry_fault, arc_fault, option_fault, Kind, OfMux, OfWord, OfEnum, OfFixed, Reading, row_fault, begins_with_dot, words_fault}
use Rattle.grammars.specs.RowByRow.{with_last, with_arc, with_bits, with_option, with_head, with_row, with_words, row_step, line_row, line_step, go_on, read_lines}
use Rattle.grammars.proofs.Lasts.{last_pushed, with_last_pushed, Ending, NoLast, Last, ending_of}
use Rattle.links.proofs.Members.{of_map}
use Rattle.fabric_laws.proofs.Members.{any_to}
use Rattle.formed_laws.specs.DatabaseRead.{HasNamesOnce}
use Rattle.formed_laws.proofs.Lists.{named_more, same_names, AllGood, good_more, good_front, good_last}

-- a name that no element has
new_name : {X : Type 0} (name : X → List ℕ) (xs : List X) (n : List ℕ) → (list_any (λ x. bytes_eq (name x) n) xs ≡ true → ⊥) → In (map name xs) n → ⊥
new_name {X} name xs n h i =
    let r = of_map name xs n i in
    h (any_to (λ (x : X). bytes_eq (name x) n) xs r.0 r.1.0 ((bytes_eq-Decides (name r.0) n).1 r.1.1))

no_test : {F : Type 0} (b : Bool) (f : F) → some_if b f ≡ None → b ≡ true → ⊥
no_test true f h e = let no : ⊥ = cc in no
no_test false f h e = false≢true e

no_entry : (number : ℕ) (b : Bool) (bits : List PatternBit) → entry_fault number b bits ≡ None → b ≡ true → ⊥
no_entry number true bits h e = let no : ⊥ = cc in no
no_entry number false bits h e = false≢true e

-- what a head declares is new
head_keeps : (number : ℕ) (db : TileDb) (head : Head) → head_fault number db head ≡ None → HasNamesOnce db → HasNamesOnce (with_head db head)
head_keeps number db (MuxHead sink) h k = record {
  sinks = named_more (λ m. m.sink) db.muxes (record { sink = sink; arcs = [] }) k.sinks (new_name (λ (m : Mux). m.sink) db.muxes sink (no_test (has_sink db.muxes sink) (BadLine number) h));
  sources = good_more (λ m. HasNoneTwice (map (λ a. a.source) m.arcs)) db.muxes (record { sink = sink; arcs = [] }) k.sources tt;
  words = k.words;
  enums = k.enums;
  values = k.values;
}
head_keeps number db (WordHead name) h k = record {
  sinks = k.sinks;
  sources = k.sources;
  words = named_more (λ w. w.name) db.words (record { name = name; bits = [] }) k.words (new_name (λ (w : WordSetting). w.name) db.words name (no_test (has_word db.words name) (BadLine number) h));
  enums = k.enums;
  values = k.values;
}
head_keeps number db (EnumHead name default) h k = record {
  sinks = k.sinks;
  sources = k.sources;
  words = k.words;
  enums = named_more (λ e. e.name) db.enums (record { name = name; default = default; options = [] }) k.enums (new_name (λ (e : EnumSetting). e.name) db.enums name (no_test (has_enum db.enums name) (BadLine number) h));
  values = good_more (λ e. HasNoneTwice (map (λ o. o.value) e.options)) db.enums (record { name = name; default = default; options = [] }) k.values tt;
}
head_keeps number db (FixedHead sink source) h k = record { sinks = k.sinks; sources = k.sources; words = k.words; enums = k.enums; values = k.values }

-- ---- a row of a mux

abbrev MuxesOnce : List Mux → Type 0
MuxesOnce muxes = HasNoneTwice (map (λ m. m.sink) muxes) × AllGood (λ m. HasNoneTwice (map (λ a. a.source) m.arcs)) muxes

abbrev with_source : Arc → Mux → Mux
with_source arc m = record { sink = m.sink; arcs = m.arcs ++ arc ∷ [] }

arc_keeps_some : (number : ℕ) (muxes : List Mux) (arc : Arc) → arc_fault number (Some arc) (last_of muxes) ≡ None → MuxesOnce muxes → Ending muxes → MuxesOnce (with_last (with_source arc) muxes)
arc_keeps_some number _ arc h k NoLast = k
arc_keeps_some number _ arc h k (Last front m) =
    let fault : entry_fault number (has_source m.arcs arc.source) arc.bits ≡ None = ap (arc_fault number (Some arc)) (sym (last_pushed front m)) ∙ h in
    let fresh = new_name (λ (a : Arc). a.source) m.arcs arc.source (no_entry number (has_source m.arcs arc.source) arc.bits fault) in
    let good : Mux → Type 0 = λ n. HasNoneTwice (map (λ a. a.source) n.arcs) in
    subst MuxesOnce (sym (with_last_pushed (with_source arc) front m)) (
      subst HasNoneTwice (same_names (λ (n : Mux). n.sink) front m (with_source arc m) refl) k.0,
      good_more good front (with_source arc m) (good_front good front m k.1) (named_more (λ (a : Arc). a.source) m.arcs arc (good_last good front m k.1) fresh),
    )

arc_keeps : (number : ℕ) (muxes : List Mux) (arc : Option Arc) → arc_fault number arc (last_of muxes) ≡ None → MuxesOnce muxes → MuxesOnce (with_arc muxes arc)
arc_keeps number muxes None h k = k
arc_keeps number muxes (Some arc) h k = arc_keeps_some number muxes arc h k (ending_of muxes)

-- ---- a row of a word

abbrev with_bit : List PatternBit → WordSetting → WordSetting
with_bit bits w = record { name = w.name; bits = w.bits ++ bits ∷ [] }

bits_keep_some : (words : List WordSetting) (bits : List PatternBit) → HasNoneTwice (map (λ w. w.name) words) → Ending words → HasNoneTwice (map (λ w. w.name) (with_last (with_bit bits) words))
bits_keep_some _ bits k NoLast = k
bits_keep_some _ bits k (Last front w) =
    subst (λ ws. HasNoneTwice (map (λ v. v.name) ws)) (sym (with_last_pushed (with_bit bits) front w))
    (subst HasNoneTwice (same_names (λ (v : WordSetting). v.name) front w (with_bit bits w) refl) k)

bits_keep : (words : List WordSetting) (bits : Option (List PatternBit)) → HasNoneTwice (map (λ w. w.name) words) → HasNoneTwice (map (λ w. w.name) (with_bits words bits))
bits_keep words None k = k
bits_keep words (Some bits) k = bits_keep_some words bits k (ending_of words)

-- ---- a row of an enum

abbrev EnumsOnce : List EnumSetting → Type 0
EnumsOnce enums = HasNoneTwice (map (λ e. e.name) enums) × AllGood (λ e. HasNoneTwice (map (λ o. o.value) e.options)) enums

abbrev with_value : EnumOption → EnumSetting → EnumSetting
with_value option e = record { name = e.name; default = e.default; options = e.options ++ option ∷ [] }

option_keeps_some : (number : ℕ) (enums : List EnumSetting) (option : EnumOption) → option_fault number (Some option) (last_of enums) ≡ None → EnumsOnce enums → Ending enums
    → EnumsOnce (with_last (with_value option) enums)
option_keeps_some number _ option h k NoLast = k
option_keeps_some number _ option h k (Last front e) =
    let fault : entry_fault number (has_value e.options option.value) option.bits ≡ None = ap (option_fault number (Some option)) (sym (last_pushed front e)) ∙ h in
    let fresh = new_name (λ (o : EnumOption). o.value) e.options option.value (no_entry number (has_value e.options option.value) option.bits fault) in
    let good : EnumSetting → Type 0 = λ n. HasNoneTwice (map (λ o. o.value) n.options) in
    subst EnumsOnce (sym (with_last_pushed (with_value option) front e)) (
      subst HasNoneTwice (same_names (λ (n : EnumSetting). n.name) front e (with_value option e) refl) k.0,
      good_more good front (with_value option e) (good_front good front e k.1) (named_more (λ (o : EnumOption). o.value) e.options option (good_last good front e k.1) fresh),
    )

option_keeps : (number : ℕ) (enums : List EnumSetting) (option : Option EnumOption) → option_fault number option (last_of enums) ≡ None → EnumsOnce enums → EnumsOnce (with_option enums option)
option_keeps number enums None h k = k
option_keeps number enums (Some option) h k = option_keeps_some number enums option h k (ending_of enums)

-- ---- any row

row_keeps : (number : ℕ) (kind : Option Kind) (db : TileDb) (words : List (List ℕ)) → row_fault number kind db words ≡ None → HasNamesOnce db → HasNamesOnce (with_row kind db words)
row_keeps number None db words h k = k
row_keeps number (Some OfMux) db words h k =
    let m = arc_keeps number db.muxes (arc_of words) h (k.sinks, k.sources) in
    record { sinks = m.0; sources = m.1; words = k.words; enums = k.enums; values = k.values }
row_keeps number (Some OfWord) db words h k =
    record { sinks = k.sinks; sources = k.sources; words = bits_keep db.words (bits_of words) k.words; enums = k.enums; values = k.values }
row_keeps number (Some OfEnum) db words h k =
    let e = option_keeps number db.enums (option_of words) h (k.enums, k.values) in
    record { sinks = k.sinks; sources = k.sources; words = k.words; enums = e.0; values = e.1 }
row_keeps number (Some OfFixed) db words h k = k

words_keep : (number : ℕ) (reading : Reading) (head : Option Head) (words : List (List ℕ)) → words_fault number reading head words ≡ None → HasNamesOnce reading.db
    → HasNamesOnce (with_words reading head words).db
words_keep number reading (Some head) words h k = head_keeps number reading.db head h k
words_keep number reading None words h k = go (begins_with_dot words) h
  where
    go : (b : Bool) → (if b then Some (BadLine number) else row_fault number reading.open_kind reading.db words) ≡ None → HasNamesOnce (with_row reading.open_kind reading.db words)
    go true e = absurd (let no : ⊥ = cc in no)
    go false e = row_keeps number reading.open_kind reading.db words e k

step_keeps : (o : Option DbFault) (made next : Reading) → unless_fault o made ≡ Ok next → (o ≡ None → HasNamesOnce made.db) → HasNamesOnce next.db
step_keeps None made next h k = let same : made ≡ next = cc in subst (λ (r : Reading). HasNamesOnce r.db) same (k refl)
step_keeps (Some f) made next h k = absurd (let no : ⊥ = cc in no)

line_keeps : (reading next : Reading) (line : Line) → line_step reading line ≡ Ok next → HasNamesOnce reading.db → HasNamesOnce next.db
line_keeps reading next line h k = go (has_words (line_row line)) h
  where
    go : (b : Bool) → (let r : Result Reading DbFault = if b then row_step reading (line_row line) else Ok reading in r ≡ Ok next) → HasNamesOnce next.db
    go false e = let same : reading ≡ next = cc in subst (λ (r : Reading). HasNamesOnce r.db) same k
    go true e =
        let words = (line_row line).words in
        step_keeps (words_fault (line_row line).number reading (head_of words) words) (with_words reading (head_of words) words) next e
        (λ n. words_keep (line_row line).number reading (head_of words) words n k)

gone_on : {X Y F : Type 0} (r : Result X F) (next : X → Result Y F) (y : Y) → go_on r next ≡ Ok y → (x : X) × ((r ≡ Ok x) × (next x ≡ Ok y))
gone_on (Ok x) next y h = (x, (refl, h))
gone_on (Err f) next y h = absurd (let no : ⊥ = cc in no)

-- all lines keep it
pub lines_keep : (lines : List Line) (reading last : Reading) → read_lines reading lines ≡ Ok last → HasNamesOnce reading.db → HasNamesOnce last.db
lines_keep [] reading last h k = let same : reading ≡ last = cc in subst (λ (r : Reading). HasNamesOnce r.db) same k
lines_keep (line ∷ lines) reading last h k =
    let r = gone_on (line_step reading line) (λ next. read_lines next lines) last h in
    lines_keep lines r.0 last r.1.1 (line_keeps reading r.0 line r.1.0 k)

pub database_gone_on : (r : Result Reading DbFault) (db : TileDb) → (let d : Result TileDb DbFault = go_on r (λ reading. Ok reading.db) in d ≡ Ok db) → (last : Reading) × ((r ≡ Ok last) × (last.db ≡ db))
database_gone_on (Ok x) db h = (x, (refl, (let e : x.db ≡ db = cc in e)))
database_gone_on (Err f) db h = absurd (let no : ⊥ = cc in no)
