-- What sections are read as, with one more row.
use Rattle.std.proofs.Common.{◌≡◌, ℕ, List, [], ◌∷◌, ◌++◌, Option, Some, None, filter_map, option_map, refl, sym, ap, ◌∙◌}
use Rattle.std.proofs.lemmas.List.{append-nil}
use Rattle.patterns.specs.Bits.{PatternBit}
use Rattle.records.specs.Database.{Arc, Mux, WordSetting, EnumOption, EnumSetting, Fixed}
use Rattle.grammars.specs.Rows.{Row}
use Rattle.grammars.specs.BitsDb.{Head, MuxHead, WordHead, EnumHead, FixedHead, Section, arc_of, bits_of, option_of, arcs_of, patterns_of, options_of, mux_of, word_of, enum_of, fixed_of, each_once, last_of, kind_of, Kind, Reading, reading_of}
use Rattle.grammars.specs.RowByRow.{with_last, with_arc, with_bits, with_option, with_row, with_words}
use Rattle.grammars.proofs.Lasts.{last_pushed, with_last_pushed, Ending, NoLast, Last, ending_of, one, mapped}
use Rattle.grammars.proofs.Connections.{one_more_connection}

abbrev pub section_with : Row → Section → Section
section_with row s = record { head = s.head; rows = s.rows ++ row ∷ [] }

-- sections with one more row, a head or a row of the last one
abbrev pub sections_with : List Section → Option Head → Row → List Section
sections_with sections (Some head) row = sections ++ record { head = head; rows = [] } ∷ []
sections_with sections None row = with_last (section_with row) sections

muxes_of : List Section → List Mux
muxes_of sections = filter_map (λ s. mux_of s.head s.rows) sections

words_of : List Section → List WordSetting
words_of sections = filter_map (λ s. word_of s.head s.rows) sections

enums_of : List Section → List EnumSetting
enums_of sections = filter_map (λ s. enum_of s.head s.rows) sections

connections_of : List Section → List Fixed
connections_of sections = filter_map (λ s. fixed_of s.head) sections

-- readings with the same parts are one
same_reading : (kind kind' : Option Kind) (muxes muxes' : List Mux) (words words' : List WordSetting) (enums enums' : List EnumSetting) (fixed fixed' : List Fixed)
    → kind ≡ kind' → muxes ≡ muxes' → words ≡ words' → enums ≡ enums' → fixed ≡ fixed'
    → ◌≡◌ {A = Reading} (record { open_kind = kind; db = record { muxes = muxes; words = words; enums = enums; fixed = fixed } })
    (record { open_kind = kind'; db = record { muxes = muxes'; words = words'; enums = enums'; fixed = fixed' } })
same_reading kind kind' muxes muxes' words words' enums enums' fixed fixed' k m w e f = cc

muxes_pushed : (sections : List Section) (s : Section) → muxes_of (sections ++ s ∷ []) ≡ muxes_of sections ++ one (mux_of s.head s.rows)
unfolding muxes_of
muxes_pushed sections s = mapped (λ s. mux_of s.head s.rows) sections s

words_pushed : (sections : List Section) (s : Section) → words_of (sections ++ s ∷ []) ≡ words_of sections ++ one (word_of s.head s.rows)
unfolding words_of
words_pushed sections s = mapped (λ s. word_of s.head s.rows) sections s

enums_pushed : (sections : List Section) (s : Section) → enums_of (sections ++ s ∷ []) ≡ enums_of sections ++ one (enum_of s.head s.rows)
unfolding enums_of
enums_pushed sections s = mapped (λ s. enum_of s.head s.rows) sections s

connections_pushed : (sections : List Section) (s : Section) → connections_of (sections ++ s ∷ []) ≡ connections_of sections ++ one (fixed_of s.head)
unfolding connections_of
connections_pushed sections s = mapped (λ s. fixed_of s.head) sections s

kind_pushed : (sections : List Section) (s : Section) → option_map (λ s. kind_of s.head) (last_of (sections ++ s ∷ [])) ≡ Some (kind_of s.head)
kind_pushed sections s = ap (option_map (λ (s : Section). kind_of s.head)) (last_pushed sections s)

-- one more head
one_more_head : (sections : List Section) (head : Head) (row : Row) → reading_of (sections_with sections (Some head) row) ≡ with_words (reading_of sections) (Some head) row.words
unfolding muxes_of words_of enums_of connections_of
one_more_head sections (MuxHead sink) row =
    let s : Section = record { head = MuxHead sink; rows = [] } in
    same_reading _ _ _ _ _ _ _ _ _ _ (kind_pushed sections s) (muxes_pushed sections s)
    (words_pushed sections s ∙ append-nil (words_of sections)) (enums_pushed sections s ∙ append-nil (enums_of sections))
    (ap each_once (connections_pushed sections s ∙ append-nil (connections_of sections)))
one_more_head sections (WordHead name) row =
    let s : Section = record { head = WordHead name; rows = [] } in
    same_reading _ _ _ _ _ _ _ _ _ _ (kind_pushed sections s) (muxes_pushed sections s ∙ append-nil (muxes_of sections))
    (words_pushed sections s) (enums_pushed sections s ∙ append-nil (enums_of sections))
    (ap each_once (connections_pushed sections s ∙ append-nil (connections_of sections)))
one_more_head sections (EnumHead name default) row =
    let s : Section = record { head = EnumHead name default; rows = [] } in
    same_reading _ _ _ _ _ _ _ _ _ _ (kind_pushed sections s) (muxes_pushed sections s ∙ append-nil (muxes_of sections))
    (words_pushed sections s ∙ append-nil (words_of sections)) (enums_pushed sections s)
    (ap each_once (connections_pushed sections s ∙ append-nil (connections_of sections)))
one_more_head sections (FixedHead sink source) row =
    let s : Section = record { head = FixedHead sink source; rows = [] } in
    same_reading _ _ _ _ _ _ _ _ _ _ (kind_pushed sections s) (muxes_pushed sections s ∙ append-nil (muxes_of sections))
    (words_pushed sections s ∙ append-nil (words_of sections)) (enums_pushed sections s ∙ append-nil (enums_of sections))
    (ap each_once (connections_pushed sections s) ∙ one_more_connection (connections_of sections) (record { sink = sink; source = source }))

-- the last mux with the arc of one more row, where it is one
mux_grown_by : (muxes : List Mux) (sink : List ℕ) (arcs : List Arc) (o : Option Arc)
    → muxes ++ record { sink = sink; arcs = arcs ++ one o } ∷ [] ≡ with_arc (muxes ++ record { sink = sink; arcs = arcs } ∷ []) o
mux_grown_by muxes sink arcs None = ap (λ (xs : List Arc). muxes ++ record { sink = sink; arcs = xs } ∷ []) (append-nil arcs)
mux_grown_by muxes sink arcs (Some arc) = sym (with_last_pushed (λ (m : Mux). record { sink = m.sink; arcs = m.arcs ++ arc ∷ [] }) muxes (record { sink = sink; arcs = arcs }))

word_grown_by : (words : List WordSetting) (name : List ℕ) (bits : List (List PatternBit)) (o : Option (List PatternBit))
    → words ++ record { name = name; bits = bits ++ one o } ∷ [] ≡ with_bits (words ++ record { name = name; bits = bits } ∷ []) o
word_grown_by words name bits None = ap (λ (xs : List (List PatternBit)). words ++ record { name = name; bits = xs } ∷ []) (append-nil bits)
word_grown_by words name bits (Some more) = sym (with_last_pushed (λ (w : WordSetting). record { name = w.name; bits = w.bits ++ more ∷ [] }) words (record { name = name; bits = bits }))

enum_grown_by : (enums : List EnumSetting) (name : List ℕ) (default : Option (List ℕ)) (options : List EnumOption) (o : Option EnumOption)
    → enums ++ record { name = name; default = default; options = options ++ one o } ∷ [] ≡ with_option (enums ++ record { name = name; default = default; options = options } ∷ []) o
enum_grown_by enums name default options None = ap (λ (xs : List EnumOption). enums ++ record { name = name; default = default; options = xs } ∷ []) (append-nil options)
enum_grown_by enums name default options (Some option) =
    sym (with_last_pushed (λ (e : EnumSetting). record { name = e.name; default = e.default; options = e.options ++ option ∷ [] }) enums (record { name = name; default = default; options = options }))

-- the parts that a section of another kind leaves alone
same_muxes : (front : List Section) (head : Head) (rows : List Row) (row : Row) → mux_of head rows ≡ None → mux_of head (rows ++ row ∷ []) ≡ None
    → muxes_of (front ++ record { head = head; rows = rows ++ row ∷ [] } ∷ []) ≡ muxes_of (front ++ record { head = head; rows = rows } ∷ [])
same_muxes front head rows row old new =
    muxes_pushed front (record { head = head; rows = rows ++ row ∷ [] }) ∙ ap (λ o. muxes_of front ++ one o) (new ∙ sym old) ∙ sym (muxes_pushed front (record { head = head; rows = rows }))

same_words : (front : List Section) (head : Head) (rows : List Row) (row : Row) → word_of head rows ≡ None → word_of head (rows ++ row ∷ []) ≡ None
    → words_of (front ++ record { head = head; rows = rows ++ row ∷ [] } ∷ []) ≡ words_of (front ++ record { head = head; rows = rows } ∷ [])
same_words front head rows row old new =
    words_pushed front (record { head = head; rows = rows ++ row ∷ [] }) ∙ ap (λ o. words_of front ++ one o) (new ∙ sym old) ∙ sym (words_pushed front (record { head = head; rows = rows }))

same_enums : (front : List Section) (head : Head) (rows : List Row) (row : Row) → enum_of head rows ≡ None → enum_of head (rows ++ row ∷ []) ≡ None
    → enums_of (front ++ record { head = head; rows = rows ++ row ∷ [] } ∷ []) ≡ enums_of (front ++ record { head = head; rows = rows } ∷ [])
same_enums front head rows row old new =
    enums_pushed front (record { head = head; rows = rows ++ row ∷ [] }) ∙ ap (λ o. enums_of front ++ one o) (new ∙ sym old) ∙ sym (enums_pushed front (record { head = head; rows = rows }))

same_connections : (front : List Section) (head : Head) (rows : List Row) (row : Row)
    → connections_of (front ++ record { head = head; rows = rows ++ row ∷ [] } ∷ []) ≡ connections_of (front ++ record { head = head; rows = rows } ∷ [])
same_connections front head rows row =
    connections_pushed front (record { head = head; rows = rows ++ row ∷ [] }) ∙ sym (connections_pushed front (record { head = head; rows = rows }))

grown_mux : (front : List Section) (sink : List ℕ) (rows : List Row) (row : Row)
    → muxes_of (front ++ record { head = MuxHead sink; rows = rows ++ row ∷ [] } ∷ []) ≡ with_arc (muxes_of (front ++ record { head = MuxHead sink; rows = rows } ∷ [])) (arc_of row.words)
grown_mux front sink rows row =
    muxes_pushed front (record { head = MuxHead sink; rows = rows ++ row ∷ [] })
    ∙ ap (λ (arcs : List Arc). muxes_of front ++ record { sink = sink; arcs = arcs } ∷ []) (mapped (λ (row : Row). arc_of row.words) rows row)
    ∙ mux_grown_by (muxes_of front) sink (arcs_of rows) (arc_of row.words)
    ∙ ap (λ muxes. with_arc muxes (arc_of row.words)) (sym (muxes_pushed front (record { head = MuxHead sink; rows = rows })))

grown_word : (front : List Section) (name : List ℕ) (rows : List Row) (row : Row)
    → words_of (front ++ record { head = WordHead name; rows = rows ++ row ∷ [] } ∷ []) ≡ with_bits (words_of (front ++ record { head = WordHead name; rows = rows } ∷ [])) (bits_of row.words)
grown_word front name rows row =
    words_pushed front (record { head = WordHead name; rows = rows ++ row ∷ [] })
    ∙ ap (λ (bits : List (List PatternBit)). words_of front ++ record { name = name; bits = bits } ∷ []) (mapped (λ (row : Row). bits_of row.words) rows row)
    ∙ word_grown_by (words_of front) name (patterns_of rows) (bits_of row.words)
    ∙ ap (λ words. with_bits words (bits_of row.words)) (sym (words_pushed front (record { head = WordHead name; rows = rows })))

grown_enum : (front : List Section) (name : List ℕ) (default : Option (List ℕ)) (rows : List Row) (row : Row)
    → enums_of (front ++ record { head = EnumHead name default; rows = rows ++ row ∷ [] } ∷ []) ≡ with_option (enums_of (front ++ record { head = EnumHead name default; rows = rows } ∷ [])) (option_of row.words)
grown_enum front name default rows row =
    enums_pushed front (record { head = EnumHead name default; rows = rows ++ row ∷ [] })
    ∙ ap (λ (options : List EnumOption). enums_of front ++ record { name = name; default = default; options = options } ∷ []) (mapped (λ (row : Row). option_of row.words) rows row)
    ∙ enum_grown_by (enums_of front) name default (options_of rows) (option_of row.words)
    ∙ ap (λ enums. with_option enums (option_of row.words)) (sym (enums_pushed front (record { head = EnumHead name default; rows = rows })))

-- one more row of the last section
grown_at : (front : List Section) (head : Head) (rows : List Row) (row : Row)
    → reading_of (front ++ record { head = head; rows = rows ++ row ∷ [] } ∷ [])
    ≡ record { open_kind = Some (kind_of head); db = with_row (Some (kind_of head)) (reading_of (front ++ record { head = head; rows = rows } ∷ [])).db row.words }
unfolding muxes_of words_of enums_of connections_of
grown_at front (MuxHead sink) rows row =
    same_reading _ _ _ _ _ _ _ _ _ _ (kind_pushed front (record { head = MuxHead sink; rows = rows ++ row ∷ [] })) (grown_mux front sink rows row)
    (same_words front (MuxHead sink) rows row refl refl) (same_enums front (MuxHead sink) rows row refl refl) (ap each_once (same_connections front (MuxHead sink) rows row))
grown_at front (WordHead name) rows row =
    same_reading _ _ _ _ _ _ _ _ _ _ (kind_pushed front (record { head = WordHead name; rows = rows ++ row ∷ [] })) (same_muxes front (WordHead name) rows row refl refl)
    (grown_word front name rows row) (same_enums front (WordHead name) rows row refl refl) (ap each_once (same_connections front (WordHead name) rows row))
grown_at front (EnumHead name default) rows row =
    same_reading _ _ _ _ _ _ _ _ _ _ (kind_pushed front (record { head = EnumHead name default; rows = rows ++ row ∷ [] })) (same_muxes front (EnumHead name default) rows row refl refl)
    (same_words front (EnumHead name default) rows row refl refl) (grown_enum front name default rows row) (ap each_once (same_connections front (EnumHead name default) rows row))
grown_at front (FixedHead sink source) rows row =
    same_reading _ _ _ _ _ _ _ _ _ _ (kind_pushed front (record { head = FixedHead sink source; rows = rows ++ row ∷ [] })) (same_muxes front (FixedHead sink source) rows row refl refl)
    (same_words front (FixedHead sink source) rows row refl refl) (same_enums front (FixedHead sink source) rows row refl refl) (ap each_once (same_connections front (FixedHead sink source) rows row))

grown : (row : Row) (sections : List Section) → Ending sections → reading_of (with_last (section_with row) sections) ≡ with_words (reading_of sections) None row.words
grown row _ NoLast = refl
grown row _ (Last front s) =
    ap reading_of (with_last_pushed (section_with row) front s) ∙ grown_at front s.head s.rows row
    ∙ ap (λ (k : Option Kind). let r : Reading = record { open_kind = k; db = with_row k (reading_of (front ++ s ∷ [])).db row.words } in r) (sym (kind_pushed front s))

pub one_more_row : (sections : List Section) (h : Option Head) (row : Row) → reading_of (sections_with sections h row) ≡ with_words (reading_of sections) h row.words
one_more_row sections (Some head) row = one_more_head sections head row
one_more_row sections None row = grown row sections (ending_of sections)
