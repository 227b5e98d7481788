-- Copies of a table by what feeds their pins. (Our own.)
use Rattle.std.specs.Prelude.{◌≡◌, ℕ, Bool, true, false, List, get_or, slice_get, Option, None, Some}
use Rattle.words.specs.Members.{In}
use Rattle.records.specs.Side.{Side}
use Rattle.fabric.specs.InOrder.{IsRising}
use Rattle.circuit.specs.Cells.{TableCell}
use Rattle.circuit.specs.Parts.{PartRef, OfTable, Source}
use Rattle.attempts.specs.PinOrder.{part_cmp}
use Rattle.part_copies.specs.declared.numbers.CopyNumbers.{CopyNumbers}
use Rattle.table_copies.specs.declared.copies.Pins.{Pins}
use Rattle.table_copies.specs.declared.copies.Tables.{Tables}
use Rattle.table_copies.specs.declared.copies.TableCopy.{TableCopy}
use Rattle.table_copies.specs.declared.copies.TableCopy.TheVariants.{Unread, Read}
use Rattle.table_copies.specs.Firsts.{first_of}

-- the place of what feeds a pin among feeders in order; none where nothing feeds it
abbrev pub TellsPlace : List PartRef → Option PartRef → Option ℕ → Type 0
TellsPlace feeders feeder None = (p : PartRef) → feeder ≡ Some p → IsRising part_cmp feeders → In feeders p → ⊥
TellsPlace feeders feeder (Some i) = (p : PartRef) × ((feeder ≡ Some p) × (slice_get feeders i ≡ Some p))

-- those of the four pins of a table
pub record ArePins (side : Side) (all : List Source) (feeders : List PartRef) (row : List (Option ℕ)) (pins : Pins) : Type 0 where
  pub of_first : TellsPlace feeders (first_of side all (get_or row 0 None)) pins.first
  pub of_second : TellsPlace feeders (first_of side all (get_or row 1 None)) pins.second
  pub of_third : TellsPlace feeders (first_of side all (get_or row 2 None)) pins.third
  pub of_fourth : TellsPlace feeders (first_of side all (get_or row 3 None)) pins.fourth

-- the part with a number is no table, or a table with this word
abbrev pub NoTable : List Source → ℕ → Type 0
NoTable all k = (s : Source) (t : TableCell) → slice_get all k ≡ Some s → s.kind ≡ OfTable t → ⊥

pub record IsWord (all : List Source) (k word : ℕ) : Type 0 where
  pub source : Source
  pub table : TableCell
  pub numbered : slice_get all k ≡ Some source
  pub is_table : source.kind ≡ OfTable table
  pub is : table.word ≡ word

-- the word of a part that is a flagged table
abbrev pub IsReadWord : List Source → List Bool → Option ℕ → Option ℕ → Type 0
IsReadWord all read None word = word ≡ None
IsReadWord all read (Some k) None = get_or read k false ≡ true → NoTable all k
IsReadWord all read (Some k) (Some word) = (get_or read k false ≡ true) × IsWord all k word

-- a copy is read exactly where there is such a word, and has its pins
abbrev pub IsCopy : Side → List Source → List PartRef → List Bool → List (Option ℕ) → Option ℕ → TableCopy → Type 0
IsCopy side all feeders read row copy Unread = IsReadWord all read copy None
IsCopy side all feeders read row copy (Read word pins) = IsReadWord all read copy (Some word) × ArePins side all feeders row pins

-- the three copies
pub record AreTables (side : Side) (all : List Source) (feeders : List PartRef) (read : List Bool) (first second third : List (Option ℕ)) (copies : CopyNumbers) (tables : Tables) : Type 0 where
  pub of_first : IsCopy side all feeders read first copies.first tables.first
  pub of_second : IsCopy side all feeders read second copies.second tables.second
  pub of_third : IsCopy side all feeders read third copies.third tables.third
