-- The parts of cells: the tables and registers of a slice, each numbered from 0, and a pad. (Our own.)
use Rattle.std.specs.Prelude.{ℕ, suc, Bool, true, false, List, [], ◌∷◌, ◌++◌, filter}
use Rattle.std.specs.List.{flat_map}
use Rattle.records.specs.Side.{Domain}
use Rattle.circuit.specs.Cells.{TableCell, RegisterCell, SliceCell, Role, InputPad, OutputPad, ClockPad, PadCell, Cells}

-- a table or a register by its number in its slice, or a pad
pub data PartKind : Type 0 where
  Table : ℕ → PartKind
  Register : ℕ → PartKind
  Pad : PartKind

-- a part, by the name of its cell
pub record PartRef : Type 0 where
  pub cell : List ℕ
  pub part : PartKind

-- what drives the output of a part
pub data Kind : Type 0 where
  OfTable : TableCell → Kind
  OfRegister : RegisterCell → Kind
  OfInput : Kind
  OfClock : Kind

-- A part with a modelled output: a table, a register, an input pad or a clock pad, with its output's wire and
-- the domain of its cell.
pub record Source : Type 0 where
  pub part : PartRef
  pub domain : Domain
  pub kind : Kind
  pub out : ℕ

-- what is made of each element of a list and its number, from a number on
abbrev pub numbered : {X Y : Type 0} → (ℕ → X → Y) → ℕ → List X → List Y
numbered make n [] = []
numbered make n (x ∷ xs) = make n x ∷ numbered make (suc n) xs

abbrev pub table_source : SliceCell → ℕ → TableCell → Source
table_source s n t = record { part = record { cell = s.name; part = Table n }; domain = s.domain; kind = OfTable t; out = t.out }

abbrev pub register_source : SliceCell → ℕ → RegisterCell → Source
register_source s n r = record { part = record { cell = s.name; part = Register n }; domain = s.domain; kind = OfRegister r; out = r.out }

abbrev pub slice_sources : SliceCell → List Source
slice_sources s = numbered (table_source s) 0 s.tables ++ numbered (register_source s) 0 s.registers

abbrev pub pad_part : PadCell → PartRef
pad_part p = record { cell = p.name; part = Pad }

-- an input or clock pad as a part with an output
abbrev pub pad_source_by : PadCell → Role → List Source
pad_source_by p InputPad = record { part = pad_part p; domain = p.domain; kind = OfInput; out = p.wire } ∷ []
pad_source_by p ClockPad = record { part = pad_part p; domain = p.domain; kind = OfClock; out = p.wire } ∷ []
pad_source_by p OutputPad = []

abbrev pub pad_sources : PadCell → List Source
pad_sources p = pad_source_by p p.role

-- the parts with a modelled output
abbrev pub sources : Cells → List Source
sources cells = flat_map slice_sources cells.slices ++ flat_map pad_sources cells.pads

abbrev pub is_output : Role → Bool
is_output InputPad = false
is_output OutputPad = true
is_output ClockPad = false

-- the output pads
abbrev pub output_pads : Cells → List PadCell
output_pads cells = filter (λ p. is_output p.role) cells.pads
