-- A database read row by row: what each row makes of what was read before it. It is how a program reads; that
-- it gives what `database_of` says is a law.
use Rattle.std.specs.Prelude.{ℕ, Bool, List, [], ◌∷◌, ◌++◌, Option, Some, None, Result, Ok, Err, if◌then◌else◌}
use Rattle.std.specs.List.{list_any}
use Rattle.words.specs.Firsts.{unless_fault}
use Rattle.patterns.specs.Bits.{PatternBit}
use Rattle.texts.specs.Lines.{Line, before_hash}
use Rattle.records.specs.Database.{Arc, Mux, WordSetting, EnumOption, EnumSetting, Fixed, TileDb}
use Rattle.grammars.specs.Rows.{Row, row_of, has_words}
use Rattle.grammars.specs.BitsDb.{DbFault, Head, MuxHead, WordHead, EnumHead, FixedHead, head_of, arc_of, bits_of, option_of, same_ends, Kind, OfMux, OfWord, OfEnum, OfFixed, kind_of, Reading, words_fault}

-- the last of a list, changed
abbrev pub with_last : {X : Type 0} → (X → X) → List X → List X
with_last change [] = []
with_last change (x ∷ []) = change x ∷ []
with_last change (x ∷ y ∷ ys) = x ∷ with_last change (y ∷ ys)

-- the last mux gets one more arc
abbrev pub with_arc : List Mux → Option Arc → List Mux
with_arc muxes (Some arc) = with_last (λ m. record { sink = m.sink; arcs = m.arcs ++ arc ∷ [] }) muxes
with_arc muxes None = muxes

-- the last word gets one more bit
abbrev pub with_bits : List WordSetting → Option (List PatternBit) → List WordSetting
with_bits words (Some bits) = with_last (λ w. record { name = w.name; bits = w.bits ++ bits ∷ [] }) words
with_bits words None = words

-- the last enum gets one more option
abbrev pub with_option : List EnumSetting → Option EnumOption → List EnumSetting
with_option enums (Some option) =
    with_last (λ e. record { name = e.name; default = e.default; options = e.options ++ option ∷ [] }) enums
with_option enums None = enums

abbrev pub has_connection : List Fixed → Fixed → Bool
has_connection connections c = list_any (λ d. same_ends d c) connections

-- one more connection, unless it is there
abbrev pub with_connection : List Fixed → Fixed → List Fixed
with_connection connections c = if has_connection connections c then connections else connections ++ c ∷ []

-- the database with what a head declares
abbrev pub with_head : TileDb → Head → TileDb
with_head db (MuxHead sink) = record db { muxes = db.muxes ++ record { sink = sink; arcs = [] } ∷ [] }
with_head db (WordHead name) = record db { words = db.words ++ record { name = name; bits = [] } ∷ [] }
with_head db (EnumHead name default) =
    record db { enums = db.enums ++ record { name = name; default = default; options = [] } ∷ [] }
with_head db (FixedHead sink source) = record db { fixed = with_connection db.fixed (record { sink = sink; source = source }) }

-- the database with one more row of its last section
abbrev pub with_row : Option Kind → TileDb → List (List ℕ) → TileDb
with_row (Some OfMux) db words = record db { muxes = with_arc db.muxes (arc_of words) }
with_row (Some OfWord) db words = record db { words = with_bits db.words (bits_of words) }
with_row (Some OfEnum) db words = record db { enums = with_option db.enums (option_of words) }
with_row (Some OfFixed) db words = db
with_row None db words = db

-- what was read, with the words of one more row
abbrev pub with_words : Reading → Option Head → List (List ℕ) → Reading
with_words reading (Some head) words = record { open_kind = Some (kind_of head); db = with_head reading.db head }
with_words reading None words = record { open_kind = reading.open_kind; db = with_row reading.open_kind reading.db words }

-- what is read behind a row, or its fault
abbrev pub row_step : Reading → Row → Result Reading DbFault
row_step reading row =
    unless_fault (words_fault row.number reading (head_of row.words) row.words) (with_words reading (head_of row.words) row.words)

abbrev pub line_row : Line → Row
line_row line = row_of (before_hash line)

-- what is read behind a line: a line without words changes nothing
abbrev pub line_step : Reading → Line → Result Reading DbFault
line_step reading line = if has_words (line_row line) then row_step reading (line_row line) else Ok reading

-- what is read on from a result
abbrev pub go_on : {X Y F : Type 0} → Result X F → (X → Result Y F) → Result Y F
go_on (Ok x) next = next x
go_on (Err fault) next = Err fault

-- what is read behind all rows, or the first fault
abbrev pub read_rows : Reading → List Row → Result Reading DbFault
read_rows reading [] = Ok reading
read_rows reading (row ∷ rows) = go_on (row_step reading row) (λ next. read_rows next rows)

-- what is read behind all lines, or the first fault
abbrev pub read_lines : Reading → List Line → Result Reading DbFault
read_lines reading [] = Ok reading
read_lines reading (line ∷ lines) = go_on (line_step reading line) (λ next. read_lines next lines)

-- nothing was read yet
abbrev pub nothing_read : Reading
nothing_read = record { open_kind = None; db = record { muxes = []; words = []; enums = []; fixed = [] } }

-- the database of a reading that went through
abbrev pub database_read : Result Reading DbFault → Result TileDb DbFault
database_read result = go_on result (λ reading. Ok reading.db)
