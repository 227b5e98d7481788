-- Rows that are read into a part of a reader.
use Rattle.std.proofs.Common.{◌≡◌, ℕ, List, Option, Some, Result, subst, sym}
use Rattle.words.specs.OrMemory.{OrMemory}
use Rattle.words.specs.Firsts.{unless_fault}
use Rattle.records.specs.Database.{WordSetting, TileDb}
use Rattle.grammars.specs.BitsDb.{Reading, Kind, OfWord, bits_of, bits_fault, row_fault}
use Rattle.grammars.specs.RowByRow.{with_bits, with_row}
use Rattle.bits_db.specs.declared.error.DbError.{DbError}
use Rattle.bits_db.specs.Faults.{fault_of}
use Rattle.bits_db.proofs.Entries.{carried}

-- the database with other words
abbrev pub with_words : TileDb → List WordSetting → TileDb
with_words db words = record { muxes = db.muxes; words = words; enums = db.enums; fixed = db.fixed }

-- a row of a word changes the words alone
pub word_row : {U : Type 0} (number : ℕ) (kind : Option Kind) (db : TileDb) (words : List WordSetting) (row : List (List ℕ)) (result : Result U DbError) → kind ≡ Some OfWord
    → OrMemory (λ _. words) fault_of result (unless_fault (bits_fault number (bits_of row)) (with_bits db.words (bits_of row)))
    → OrMemory (λ _. let r : Reading = record { open_kind = kind; db = with_words db words } in r) fault_of result (unless_fault (row_fault number kind db row) (record { open_kind = kind; db = with_row kind db row }))
word_row number kind db words row result is h =
    let P : Option Kind → Type 0 = λ k. OrMemory (λ _. let r : Reading = record { open_kind = k; db = with_words db words } in r) fault_of result (unless_fault (row_fault number k db row) (record { open_kind = k; db = with_row k db row })) in
    subst P (sym is)
    (carried fault_of result (bits_fault number (bits_of row)) (with_bits db.words (bits_of row)) words (λ (ws : List WordSetting). let r : Reading = record { open_kind = Some OfWord; db = with_words db ws } in r) h)
