-- What the cells of an image and the side file that names them meet, where both files are read and no outputs overlap.
-- (Our own.)
use Rattle.std.specs.Prelude.{◌≡◌, ◌≢◌, ℕ, ◌≤◌, List, length}
use Rattle.words.specs.Members.{In}
use Rattle.records.specs.Side.{Domain, Triple}
use Rattle.circuit.specs.Cells.{TableCell, SliceCell, Role, InputPad, OutputPad, ClockPad, PadCell, Cells}
use Rattle.circuit.specs.Parts.{Source, sources}
use Rattle.circuit.specs.Triples.{IsEntry, all_triples, triple_with, LiesIn}
use Rattle.circuit.specs.Circuits.{Circuit}

-- no two cells have one name
pub record NamesApart (cells : Cells) : Type 0 where
  pub slices : (s u : SliceCell) → In cells.slices s → In cells.slices u → s.name ≡ u.name → s ≡ u
  pub pads : (p q : PadCell) → In cells.pads p → In cells.pads q → p.name ≡ q.name → p ≡ q
  pub kinds : (s : SliceCell) (p : PadCell) → In cells.slices s → In cells.pads p → s.name ≢ p.name

-- each modelled output is a cell output, and the output of one part
pub record OutputsApart (c : Circuit) : Type 0 where
  pub listed : (s : Source) → In (sources c.cells) s → In c.routing.outputs s.out
  pub alone : (s u : Source) → In (sources c.cells) s → In (sources c.cells) u → s.out ≡ u.out → s ≡ u

-- a slice, or a pad of a role, has this name
abbrev pub IsSlice : Cells → List ℕ → Type 0
IsSlice cells name = (s : SliceCell) × (In cells.slices s × (s.name ≡ name))

abbrev pub IsPad : Cells → Role → List ℕ → Type 0
IsPad cells role name = (p : PadCell) × (In cells.pads p × (p.name ≡ name) × (p.role ≡ role))

-- each entry of a triple is a cell of its list, and each cell stands in one triple
pub record TriplesFit (c : Circuit) : Type 0 where
  pub slices : (t : Triple) (name : List ℕ) → In c.side.triples t → IsEntry t name → IsSlice c.cells name
  pub inputs : (t : Triple) (name : List ℕ) → In c.side.inputs t → IsEntry t name → IsPad c.cells InputPad name
  pub outputs : (t : Triple) (name : List ℕ) → In c.side.outputs t → IsEntry t name → IsPad c.cells OutputPad name
  pub clocks : (t : Triple) (name : List ℕ) → In c.side.clocks t → IsEntry t name → IsPad c.cells ClockPad name
  pub paired : (name : List ℕ) (d : Domain) → LiesIn c.cells name d → (t : Triple) × (In (all_triples c.side) t × IsEntry t name)
  pub once : (t u : Triple) (name : List ℕ) → In (all_triples c.side) t → In (all_triples c.side) u → IsEntry t name → IsEntry u name → t ≡ u

-- the slices of a triple have equally many tables and equally many registers, and a table has 1 to 4 pins
pub record SizesFit (c : Circuit) : Type 0 where
  pub tables : (s u : SliceCell) → In c.cells.slices s → In c.cells.slices u
      → triple_with c.side s.name ≡ triple_with c.side u.name → length s.tables ≡ length u.tables
  pub registers : (s u : SliceCell) → In c.cells.slices s → In c.cells.slices u
      → triple_with c.side s.name ≡ triple_with c.side u.name → length s.registers ≡ length u.registers
  pub some_pins : (s : SliceCell) (t : TableCell) → In c.cells.slices s → In s.tables t → 1 ≤ length t.pins
  pub few_pins : (s : SliceCell) (t : TableCell) → In c.cells.slices s → In s.tables t → length t.pins ≤ 4

pub record IsWellFormed (c : Circuit) : Type 0 where
  pub names : NamesApart c.cells
  pub outputs : OutputsApart c
  pub triples : TriplesFit c
  pub sizes : SizesFit c
