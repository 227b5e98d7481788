-- The grammar of `bits.db`, the database of a tile type. Its rows make sections: a head, and the rows up to
-- the next head. (After Project Trellis; limits, comments, and that nothing stands twice are our own.)
use Rattle.std.specs.Prelude.{ℕ, Bool, false, not, List, [], ◌∷◌, length, filter, filter_map, Option, Some, None, option_map, Result, codes, nat_lt, if◌then◌else◌, ◌==◌, ◌&&◌}
use Rattle.std.specs.List.{list_any}
use Rattle.std.specs.Str.{bytes_eq}
use Rattle.words.specs.Firsts.{first_fault, unless_fault}
use Rattle.patterns.specs.Bits.{PatternBit}
use Rattle.texts.specs.Names.{is_name}
use Rattle.texts.specs.PatternBits.{pattern_bit_of}
use Rattle.records.specs.Limits.{Limit, PatternBits, most_pattern_bits}
use Rattle.records.specs.Database.{Arc, Mux, WordSetting, EnumOption, EnumSetting, Fixed, TileDb}
use Rattle.grammars.specs.Rows.{Row, rows_of}

-- why a database isn't read: the number of a line outside the grammar, or a limit that is passed
pub data DbFault : Type 0 where
  BadLine : ℕ → DbFault
  TooLarge : Limit → DbFault

-- x, where the test holds
abbrev pub some_if : {X : Type 0} → Bool → X → Option X
some_if test x = if test then Some x else None

-- The words of a row.

-- x in front of a list that is there
abbrev pub with_front : {X : Type 0} → Option X → Option (List X) → Option (List X)
with_front (Some x) (Some xs) = Some (x ∷ xs)
with_front (Some x) None = None
with_front None xs = None

-- the bits that words spell, each of them one
abbrev pub pattern_of : List (List ℕ) → Option (List PatternBit)
pattern_of [] = Some []
pattern_of (w ∷ ws) = with_front (pattern_bit_of w) (pattern_of ws)

-- BITS: `-` for no bits, or one or more bits
abbrev pub bits_of : List (List ℕ) → Option (List PatternBit)
bits_of [] = None
bits_of (w ∷ []) = if bytes_eq w (codes "-") then Some [] else pattern_of (w ∷ [])
bits_of (w ∷ v ∷ ws) = pattern_of (w ∷ v ∷ ws)

-- an arc, `SOURCE BITS`
abbrev pub arc_of : List (List ℕ) → Option Arc
arc_of [] = None
arc_of (source ∷ bits) = if is_name source then option_map (λ pattern. record { source = source; bits = pattern }) (bits_of bits) else None

-- an option of an enum, `VALUE BITS`
abbrev pub option_of : List (List ℕ) → Option EnumOption
option_of [] = None
option_of (value ∷ bits) = if is_name value then option_map (λ pattern. record { value = value; bits = pattern }) (bits_of bits) else None

-- what the head of a section declares
pub data Head : Type 0 where
  MuxHead : List ℕ → Head
  WordHead : List ℕ → Head
  EnumHead : List ℕ → Option (List ℕ) → Head
  FixedHead : List ℕ → List ℕ → Head

-- `SINK` behind `.mux`
abbrev pub mux_head : List (List ℕ) → Option Head
mux_head (sink ∷ []) = some_if (is_name sink) (MuxHead sink)
mux_head _ = None

-- `NAME [DEFAULT]` behind `.config`, where the default may be any word and says nothing
abbrev pub word_head : List (List ℕ) → Option Head
word_head (name ∷ []) = some_if (is_name name) (WordHead name)
word_head (name ∷ default ∷ []) = some_if (is_name name) (WordHead name)
word_head _ = None

-- `NAME [DEFAULT]` behind `.config_enum`
abbrev pub enum_head : List (List ℕ) → Option Head
enum_head (name ∷ []) = some_if (is_name name) (EnumHead name None)
enum_head (name ∷ default ∷ []) = some_if (is_name name && is_name default) (EnumHead name (Some default))
enum_head _ = None

-- `SINK SOURCE` behind `.fixed_conn`
abbrev pub fixed_head : List (List ℕ) → Option Head
fixed_head (sink ∷ source ∷ []) = some_if (is_name sink && is_name source) (FixedHead sink source)
fixed_head _ = None

-- the head that words are
abbrev pub head_of : List (List ℕ) → Option Head
head_of [] = None
head_of (first ∷ words) =
    if bytes_eq first (codes ".mux") then mux_head words
    else if bytes_eq first (codes ".config") then word_head words
    else if bytes_eq first (codes ".config_enum") then enum_head words
    else if bytes_eq first (codes ".fixed_conn") then fixed_head words
    else None

-- The sections of rows.

pub record Section : Type 0 where
  pub head : Head
  pub rows : List Row

-- a head ends the rows before it, and another row stands in front of those behind it
abbrev pub row_before : Option Head → Row → List Row → List Row
row_before (Some head) row rows = []
row_before None row rows = row ∷ rows

-- the rows up to the next head
abbrev pub rows_up_to_head : List Row → List Row
rows_up_to_head [] = []
rows_up_to_head (row ∷ rows) = row_before (head_of row.words) row (rows_up_to_head rows)

-- a head begins a section
abbrev pub section_before : Option Head → List Row → List Section → List Section
section_before (Some head) rows sections = record { head = head; rows = rows } ∷ sections
section_before None rows sections = sections

-- each head with the rows up to the next one
abbrev pub sections_of : List Row → List Section
sections_of [] = []
sections_of (row ∷ rows) = section_before (head_of row.words) (rows_up_to_head rows) (sections_of rows)

-- What sections say of a tile type.

abbrev pub arcs_of : List Row → List Arc
arcs_of rows = filter_map (λ row. arc_of row.words) rows

abbrev pub patterns_of : List Row → List (List PatternBit)
patterns_of rows = filter_map (λ row. bits_of row.words) rows

abbrev pub options_of : List Row → List EnumOption
options_of rows = filter_map (λ row. option_of row.words) rows

-- the mux that a section declares, with an arc for each row
abbrev pub mux_of : Head → List Row → Option Mux
mux_of (MuxHead sink) rows = Some (record { sink = sink; arcs = arcs_of rows })
mux_of _ rows = None

-- the word that a section declares, with a pattern for each row
abbrev pub word_of : Head → List Row → Option WordSetting
word_of (WordHead name) rows = Some (record { name = name; bits = patterns_of rows })
word_of _ rows = None

-- the enum that a section declares, with an option for each row
abbrev pub enum_of : Head → List Row → Option EnumSetting
enum_of (EnumHead name default) rows = Some (record { name = name; default = default; options = options_of rows })
enum_of _ rows = None

-- the fixed connection that a section declares
abbrev pub fixed_of : Head → Option Fixed
fixed_of (FixedHead sink source) = Some (record { sink = sink; source = source })
fixed_of _ = None

abbrev pub same_ends : Fixed → Fixed → Bool
same_ends a b = bytes_eq a.sink b.sink && bytes_eq a.source b.source

-- each connection of a list once, at its first place
abbrev pub each_once : List Fixed → List Fixed
each_once [] = []
each_once (c ∷ cs) = c ∷ filter (λ d. not (same_ends c d)) (each_once cs)

abbrev pub database_with : List Section → TileDb
database_with sections = record {
  muxes = filter_map (λ s. mux_of s.head s.rows) sections;
  words = filter_map (λ s. word_of s.head s.rows) sections;
  enums = filter_map (λ s. enum_of s.head s.rows) sections;
  fixed = each_once (filter_map (λ s. fixed_of s.head) sections);
}

-- The faults of rows.

abbrev pub has_sink : List Mux → List ℕ → Bool
has_sink muxes sink = list_any (λ m. bytes_eq m.sink sink) muxes

abbrev pub has_source : List Arc → List ℕ → Bool
has_source arcs source = list_any (λ a. bytes_eq a.source source) arcs

abbrev pub has_word : List WordSetting → List ℕ → Bool
has_word words name = list_any (λ w. bytes_eq w.name name) words

abbrev pub has_enum : List EnumSetting → List ℕ → Bool
has_enum enums name = list_any (λ e. bytes_eq e.name name) enums

abbrev pub has_value : List EnumOption → List ℕ → Bool
has_value options value = list_any (λ o. bytes_eq o.value value) options

-- a bad line, where the test holds
abbrev pub bad_line_if : ℕ → Bool → Option DbFault
bad_line_if number test = some_if test (BadLine number)

-- a head declares a mux, a word or an enum that the database before it doesn't have
abbrev pub head_fault : ℕ → TileDb → Head → Option DbFault
head_fault number db (MuxHead sink) = bad_line_if number (has_sink db.muxes sink)
head_fault number db (WordHead name) = bad_line_if number (has_word db.words name)
head_fault number db (EnumHead name default) = bad_line_if number (has_enum db.enums name)
head_fault number db (FixedHead sink source) = None

-- the last of a list
abbrev pub last_of : {X : Type 0} → List X → Option X
last_of [] = None
last_of (x ∷ []) = Some x
last_of (x ∷ y ∷ ys) = last_of (y ∷ ys)

abbrev pub pattern_fault : List PatternBit → Option DbFault
pattern_fault bits = some_if (nat_lt most_pattern_bits (length bits)) (TooLarge PatternBits)

-- a pattern, unless the test makes its line a bad one
abbrev pub entry_fault : ℕ → Bool → List PatternBit → Option DbFault
entry_fault number test bits = if test then Some (BadLine number) else pattern_fault bits

-- a row of a mux is an arc from another source than those of the mux so far
abbrev pub arc_fault : ℕ → Option Arc → Option Mux → Option DbFault
arc_fault number (Some arc) (Some mux) = entry_fault number (has_source mux.arcs arc.source) arc.bits
arc_fault number _ _ = Some (BadLine number)

-- a row of a word is the pattern of a bit
abbrev pub bits_fault : ℕ → Option (List PatternBit) → Option DbFault
bits_fault number (Some bits) = pattern_fault bits
bits_fault number None = Some (BadLine number)

-- a row of an enum is an option with another value than those of the enum so far
abbrev pub option_fault : ℕ → Option EnumOption → Option EnumSetting → Option DbFault
option_fault number (Some option) (Some enum) = entry_fault number (has_value enum.options option.value) option.bits
option_fault number _ _ = Some (BadLine number)

-- what the rows of a section are
pub data Kind : Type 0 where
  OfMux : Kind
  OfWord : Kind
  OfEnum : Kind
  OfFixed : Kind

abbrev pub kind_of : Head → Kind
kind_of (MuxHead sink) = OfMux
kind_of (WordHead name) = OfWord
kind_of (EnumHead name default) = OfEnum
kind_of (FixedHead sink source) = OfFixed

-- What was read of a database so far: the database, and the kind of its last section, to which further rows
-- belong.
pub record Reading : Type 0 where
  pub open_kind : Option Kind
  pub db : TileDb

abbrev pub reading_of : List Section → Reading
reading_of sections = record {
  open_kind = option_map (λ s. kind_of s.head) (last_of sections);
  db = database_with sections;
}

-- A row that is no head belongs to the last section: the last mux, word or enum of the database. Without a
-- section, and behind a fixed connection, there is none.
abbrev pub row_fault : ℕ → Option Kind → TileDb → List (List ℕ) → Option DbFault
row_fault number (Some OfMux) db words = arc_fault number (arc_of words) (last_of db.muxes)
row_fault number (Some OfWord) db words = bits_fault number (bits_of words)
row_fault number (Some OfEnum) db words = option_fault number (option_of words) (last_of db.enums)
row_fault number (Some OfFixed) db words = Some (BadLine number)
row_fault number None db words = Some (BadLine number)

-- only a head may begin with a dot
abbrev pub begins_with_dot : List (List ℕ) → Bool
begins_with_dot ((byte ∷ bytes) ∷ words) = byte == 46
begins_with_dot _ = false

-- the fault of words at a line behind a reading: a head, or a row of the last section
abbrev pub words_fault : ℕ → Reading → Option Head → List (List ℕ) → Option DbFault
words_fault number reading (Some head) words = head_fault number reading.db head
words_fault number reading None words =
    if begins_with_dot words then Some (BadLine number) else row_fault number reading.open_kind reading.db words

-- the fault of a row with those before it
abbrev pub fault_of : List Row → Row → Option DbFault
fault_of before row = words_fault row.number (reading_of (sections_of before)) (head_of row.words) row.words

-- What the bytes of a database are read as: the first fault of its rows, or what its sections say.
abbrev pub database_of : List ℕ → Result TileDb DbFault
database_of text = let rows = rows_of text in unless_fault (first_fault fault_of rows) (database_with (sections_of rows))
