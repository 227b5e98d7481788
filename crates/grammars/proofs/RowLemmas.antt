-- Reading row by row gives what the sections of all rows say, or the fault of the first faulty one.
use Rattle.std.proofs.Common.{◌≡◌, ℕ, List, [], ◌∷◌, ◌++◌, Option, Some, None, Result, Ok, Err, Bool, true, false, cond, map, filter, refl, sym, ap, ◌∙◌, append_assoc}
use Rattle.std.proofs.lemmas.List.{append-nil}
use Rattle.words.specs.Firsts.{first_fault_after, first_fault, or_else, unless_fault}
use Rattle.texts.specs.Lines.{Line, lines_of}
use Rattle.grammars.specs.Rows.{Row, has_words, rows_of}
use Rattle.grammars.specs.BitsDb.{DbFault, Head, head_of, Section, row_before, rows_up_to_head, section_before, sections_of, Reading, reading_of, fault_of, database_of}
use Rattle.grammars.specs.RowByRow.{with_words, row_step, line_row, line_step, go_on, read_rows, read_lines, nothing_read, database_read}
use Rattle.grammars.proofs.Readings.{sections_with, one_more_row}

-- the rows that a row adds to the section before it
added : Option Head → Row → List Row
added (Some head) row = []
added None row = row ∷ []

-- rows before the first of these sections, and more behind them: they count only where there is no section
rows_with : List Section → List Row → List Row → List Row
rows_with [] rows more = rows ++ more
rows_with (s ∷ ss) rows more = rows

rows_alone : (h : Option Head) (row : Row) → row_before h row [] ≡ rows_with [] [] (added h row)
unfolding rows_with added
rows_alone (Some head) row = refl
rows_alone None row = refl

rows_step : (h : Option Head) (row : Row) (sections : List Section) (rows more : List Row)
    → row_before h row (rows_with sections rows more) ≡ rows_with (section_before h rows sections) (row_before h row rows) more
unfolding rows_with
rows_step (Some head) row sections rows more = refl
rows_step None row [] rows more = refl
rows_step None row (s ∷ ss) rows more = refl

-- a row at the end adds to the rows without a head
rows_at_end : (rows : List Row) (row : Row) → rows_up_to_head (rows ++ row ∷ []) ≡ rows_with (sections_of rows) (rows_up_to_head rows) (added (head_of row.words) row)
rows_at_end [] row = rows_alone (head_of row.words) row
rows_at_end (r ∷ rs) row =
    ap (row_before (head_of r.words) r) (rows_at_end rs row)
    ∙ rows_step (head_of r.words) r (sections_of rs) (rows_up_to_head rs) (added (head_of row.words) row)

nothing_added : (head : Head) (sections : List Section) (rows : List Row) → ◌≡◌ {A = Section} (record { head = head; rows = rows_with sections rows [] }) (record { head = head; rows = rows })
unfolding rows_with
nothing_added head [] rows = ap (λ (rs : List Row). let s : Section = record { head = head; rows = rs } in s) (append-nil rows)
nothing_added head (s ∷ ss) rows = refl

sections_step : (r h : Option Head) (row : Row) (sections : List Section) (rows : List Row)
    → section_before r (rows_with sections rows (added h row)) (sections_with sections h row) ≡ sections_with (section_before r rows sections) h row
unfolding added
sections_step None h row sections rows = refl
sections_step (Some head) (Some new) row sections rows = ap (λ (s : Section). s ∷ (sections ++ record { head = new; rows = [] } ∷ [])) (nothing_added head sections rows)
sections_step (Some head) None row [] rows = unfold rows_with in refl
sections_step (Some head) None row (s ∷ ss) rows = unfold rows_with in refl

sections_alone : (h : Option Head) (row : Row) → section_before h [] [] ≡ sections_with [] h row
sections_alone (Some head) row = refl
sections_alone None row = refl

-- the sections of one more row
sections_at_end : (rows : List Row) (row : Row) → sections_of (rows ++ row ∷ []) ≡ sections_with (sections_of rows) (head_of row.words) row
sections_at_end [] row = sections_alone (head_of row.words) row
sections_at_end (r ∷ rs) row =
    ap (λ rows. section_before (head_of r.words) rows (sections_of (rs ++ row ∷ []))) (rows_at_end rs row)
    ∙ ap (section_before (head_of r.words) (rows_with (sections_of rs) (rows_up_to_head rs) (added (head_of row.words) row))) (sections_at_end rs row)
    ∙ sections_step (head_of r.words) (head_of row.words) row (sections_of rs) (rows_up_to_head rs)

-- what rows are read as
abbrev read_as : List Row → Reading
read_as rows = reading_of (sections_of rows)

row_at_end : (rows : List Row) (row : Row) → read_as (rows ++ row ∷ []) ≡ with_words (read_as rows) (head_of row.words) row.words
row_at_end rows row = ap reading_of (sections_at_end rows row) ∙ one_more_row (sections_of rows) (head_of row.words) row

go_on_at : (fault later : Option DbFault) (reading all : Reading) (next : Reading → Result Reading DbFault)
    → next reading ≡ unless_fault later all → go_on (unless_fault fault reading) next ≡ unless_fault (or_else fault later) all
go_on_at None later reading all next h = h
go_on_at (Some fault) later reading all next h = refl

-- reading on behind some rows
read_on : (front rows : List Row) → read_rows (read_as front) rows ≡ unless_fault (first_fault_after fault_of front rows) (read_as (front ++ rows))
read_on front [] = ap (λ rows. Ok (read_as rows)) (sym (append-nil front))
read_on front (row ∷ rows) =
    go_on_at (fault_of front row) (first_fault_after fault_of (front ++ row ∷ []) rows) (with_words (read_as front) (head_of row.words) row.words) (read_as (front ++ row ∷ rows)) (λ next. read_rows next rows)
    (ap (λ reading. read_rows reading rows) (sym (row_at_end front row)) ∙ read_on (front ++ row ∷ []) rows
    ∙ ap (λ all. unless_fault (first_fault_after fault_of (front ++ row ∷ []) rows) (read_as all)) (append_assoc front (row ∷ []) rows))

line_at : (words : Bool) (reading : Reading) (row : Row) (rows : List Row) → go_on (cond words (row_step reading row) (Ok reading)) (λ next. read_rows next rows) ≡ read_rows reading (cond words (row ∷ rows) rows)
line_at true reading row rows = refl
line_at false reading row rows = refl

same_next : (r : Result Reading DbFault) (f g : Reading → Result Reading DbFault) → ((reading : Reading) → f reading ≡ g reading) → go_on r f ≡ go_on r g
same_next (Ok reading) f g h = h reading
same_next (Err fault) f g h = refl

-- lines without words are passed over
lines_as_rows : (reading : Reading) (lines : List Line) → read_lines reading lines ≡ read_rows reading (filter has_words (map line_row lines))
lines_as_rows reading [] = refl
lines_as_rows reading (line ∷ lines) =
    same_next (line_step reading line) (λ next. read_lines next lines) (λ next. read_rows next (filter has_words (map line_row lines))) (λ next. lines_as_rows next lines)
    ∙ line_at (has_words (line_row line)) reading (line_row line) (filter has_words (map line_row lines))

with_database : (fault : Option DbFault) (reading : Reading) → database_read (unless_fault fault reading) ≡ unless_fault fault reading.db
with_database None reading = refl
with_database (Some fault) reading = refl

pub read_by_lines : (text : List ℕ) → database_of text ≡ database_read (read_lines nothing_read (lines_of text))
read_by_lines text =
    sym (ap database_read (lines_as_rows nothing_read (lines_of text) ∙ read_on [] (rows_of text)) ∙ with_database (first_fault fault_of (rows_of text)) (read_as (rows_of text)))
