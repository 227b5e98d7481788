-- Copies that aren't alike, and where they differ. A copy that isn't read isn't compared. (After majority voting; what
-- is named is our own.)
use Rattle.std.specs.Prelude.{◌≡◌, ℕ, Bool, true, false, List, [], ◌∷◌, ◌++◌, map, codes, ◌↔◌, if◌then◌else◌}
use Rattle.std.specs.declared.cmp.Ordering.{Ordering}
use Rattle.std.specs.declared.cmp.Ordering.TheVariants.{Less, Equal, Greater}
use Rattle.std.specs.Cmp.Lexicographic.{slice_cmp}
use Rattle.words.specs.Members.{In}
use Rattle.texts.specs.Printing.{bit_digits}
use Rattle.records.specs.Side.{Triple}
use Rattle.fabric.specs.InOrder.{IsRising}
use Rattle.circuit.specs.Cells.{TableCell, RegisterCell, PadCell}
use Rattle.circuit.specs.Parts.{PartKind, Table, Register, Pad, PartRef, Source, OfTable, OfRegister, sources, output_pads}
use Rattle.circuit.specs.Pins.{Pin, table_pins, pad_pin}
use Rattle.circuit.specs.Triples.{PartTriple, IsEntry, triple_of}
use Rattle.circuit.specs.Circuits.{Circuit, Connects, IsRead}
use Rattle.circuit.specs.Worlds.{table_output}
use Rattle.circuit.specs.Tables.{Assigned}
use Rattle.circuit.specs.Registers.{FedAlike, TakesAlike}
use Rattle.circuit.specs.Triplicated.{ReadPart}
use Rattle.answers.specs.Refusals.{Refusal, CopiesDiffer}
use Rattle.attempts.specs.PinOrder.{part_cmp}
use Rattle.design_checks.specs.Checks.{IsLeast}
use Rattle.design_checks.specs.MaskChecks.{OpenAreZero}

-- the part of this kind in the copy of domain 0
abbrev pub first_part : PartTriple → PartRef
first_part t = record { cell = t.cells.first; part = t.part }

abbrev pub part_in : List ℕ → PartKind → PartRef
part_in cell part = record { cell = cell; part = part }

-- ---- tables

-- a triple feeds a pin of one of the three tables, read or not
pub record FeedsTable (c : Circuit) (t : Triple) (number : ℕ) (feeder : PartTriple) : Type 0 where
  pub cell : List ℕ
  pub copy : IsEntry t cell
  pub source : Source
  pub table : TableCell
  pub listed : In (sources c.cells) source
  pub is : source.part ≡ part_in cell (Table number)
  pub is_table : source.kind ≡ OfTable table
  pub pin : Pin
  pub takes : In (table_pins source.part table) pin
  pub from : Source
  pub connects : Connects c from pin
  pub same : triple_of c.side from.part ≡ feeder

-- the triples that feed one of the three tables, by their parts of domain 0
pub record AreFeeders (c : Circuit) (t : Triple) (number : ℕ) (feeders : List PartTriple) : Type 0 where
  pub rising : IsRising (λ a b. part_cmp (first_part a) (first_part b)) feeders
  pub members : (feeder : PartTriple) → In feeders feeder ↔ FeedsTable c t number feeder

-- what a copy gives where the triples that feed it have these bits, as a digit; `-` where it isn't read
pub data Gives (c : Circuit) (bits : PartTriple → Bool) (part : PartRef) : List ℕ → Type 0 where
  output : (s : Source) (t : TableCell) (x : Pin → Bool) → s.part ≡ part → ReadPart c s → s.kind ≡ OfTable t → Assigned c bits s t x → OpenAreZero c s t x
      → Gives c bits part (if table_output s.part t x then codes "1" else codes "0")
  unread : ((s : Source) → In (sources c.cells) s → s.part ≡ part → IsRead c s → ⊥) → Gives c bits part (codes "-")

-- The three tables of this number give different outputs where the triples that feed them have these bits.
pub record TablesDiffer (c : Circuit) (t : Triple) (number : ℕ) (digits : List Bool) (outputs : List ℕ) : Type 0 where
  pub feeders : List PartTriple
  pub are : AreFeeders c t number feeders
  pub bits : PartTriple → Bool
  pub assigned : map bits feeders ≡ digits
  pub first : List ℕ
  pub second : List ℕ
  pub third : List ℕ
  pub gives_first : Gives c bits (part_in t.first (Table number)) first
  pub gives_second : Gives c bits (part_in t.second (Table number)) second
  pub gives_third : Gives c bits (part_in t.third (Table number)) third
  pub zero : In (first ∷ second ∷ third ∷ []) (codes "0")
  pub one : In (first ∷ second ∷ third ∷ []) (codes "1")
  pub text : outputs ≡ first ++ second ++ third

-- digits are compared one after the other, 0 before 1
abbrev pub digit_cmp : Bool → Bool → Ordering
digit_cmp false false = Equal
digit_cmp false true = Less
digit_cmp true false = Greater
digit_cmp true true = Equal

-- a digit for each triple, or `-` where there is none
abbrev pub digits_or_dash : List Bool → List ℕ
digits_or_dash [] = codes "-"
digits_or_dash (b ∷ bs) = bit_digits (b ∷ bs)

-- ---- registers

-- two read copies of a register
pub record TwoRegisters (c : Circuit) (t : Triple) (number : ℕ) (s u : Source) (q r : RegisterCell) : Type 0 where
  pub first_cell : List ℕ
  pub second_cell : List ℕ
  pub first_copy : IsEntry t first_cell
  pub second_copy : IsEntry t second_cell
  pub first_is : s.part ≡ part_in first_cell (Register number)
  pub second_is : u.part ≡ part_in second_cell (Register number)
  pub first_read : ReadPart c s
  pub second_read : ReadPart c u
  pub first_kind : s.kind ≡ OfRegister q
  pub second_kind : u.kind ≡ OfRegister r

-- two read copies differ as a relation between registers says
abbrev pub RegistersDiffer : Circuit → Triple → ℕ → (PartRef → PartRef → RegisterCell → RegisterCell → Type 0) → Type 0
RegistersDiffer c t number Alike =
    (s : Source) × ((u : Source) × ((q : RegisterCell) × ((r : RegisterCell) × (TwoRegisters c t number s u q r × (Alike s.part u.part q r → ⊥)))))

-- in what registers may differ, in this order
pub data Field : Type 0 where
  InSet : Field
  InData : Field
  InEnable : Field
  InReset : Field
  InClock : Field

abbrev pub field_text : Field → List ℕ
field_text InSet = codes "set"
field_text InData = codes "data"
field_text InEnable = codes "enable"
field_text InReset = codes "reset"
field_text InClock = codes "clock"

abbrev pub fields_before : Field → List Field
fields_before InSet = []
fields_before InData = InSet ∷ []
fields_before InEnable = InSet ∷ InData ∷ []
fields_before InReset = InSet ∷ InData ∷ InEnable ∷ []
fields_before InClock = InSet ∷ InData ∷ InEnable ∷ InReset ∷ []

abbrev pub AlikeIn : Circuit → Field → PartRef → PartRef → RegisterCell → RegisterCell → Type 0
AlikeIn c InSet s u q r = q.set ≡ r.set
AlikeIn c InData s u q r = TakesAlike c s u 0 q.input r.input
AlikeIn c InEnable s u q r = TakesAlike c s u 1 q.enable r.enable
AlikeIn c InReset s u q r = TakesAlike c s u 2 q.reset r.reset
AlikeIn c InClock s u q r = TakesAlike c s u 3 q.clock r.clock

-- the first in which copies of a register differ
pub record IsFirstField (c : Circuit) (t : Triple) (number : ℕ) (field : Field) : Type 0 where
  pub differs : RegistersDiffer c t number (AlikeIn c field)
  pub earlier : (other : Field) → In (fields_before field) other → RegistersDiffer c t number (AlikeIn c other) → ⊥

-- ---- parts

-- two output pads of a triple aren't fed by the same triple
abbrev pub OutputsDiffer : Circuit → Triple → Type 0
OutputsDiffer c t =
    (p : PadCell) × ((q : PadCell) × (In (output_pads c.cells) p × (In (output_pads c.cells) q × (IsEntry t p.name × (IsEntry t q.name × (FedAlike c (pad_pin p) (pad_pin q) → ⊥))))))

-- the copies of a part, named by that of domain 0, differ, and in what
pub data DifferIn (c : Circuit) : PartRef → List ℕ → Type 0 where
  in_tables : (t : Triple) (number : ℕ) (digits : List Bool) (outputs : List ℕ) → In c.side.triples t → TablesDiffer c t number digits outputs
      → IsLeast (slice_cmp digit_cmp) (λ other. (text : List ℕ) × TablesDiffer c t number other text) digits
      → DifferIn c (part_in t.first (Table number)) (digits_or_dash digits ++ codes " " ++ outputs)
  in_registers : (t : Triple) (number : ℕ) (field : Field) → In c.side.triples t → IsFirstField c t number field → DifferIn c (part_in t.first (Register number)) (field_text field)
  in_outputs : (t : Triple) → In c.side.outputs t → OutputsDiffer c t → DifferIn c (part_in t.first Pad) (codes "out")

-- 35: the least part whose copies differ
pub data CopiesUnlike (c : Circuit) : Refusal → Type 0 where
  unlike : (part : PartRef) (what : List ℕ) → IsLeast part_cmp (λ p. (text : List ℕ) × DifferIn c p text) part → DifferIn c part what → CopiesUnlike c (CopiesDiffer part what)
