-- The copies of a register, and in what two of them differ. (Our own.)
use Rattle.std.specs.Prelude.{◌≡◌, ◌↔◌, ℕ, ◌<◌, Bool, List, length, get_or, slice_get, IsTrue, Option, None, Some}
use Rattle.records.specs.Side.{Triple}
use Rattle.circuit.specs.Cells.{RegisterCell}
use Rattle.circuit.specs.Parts.{Register, OfRegister, Source, sources}
use Rattle.circuit.specs.Triples.{IsEntry}
use Rattle.circuit.specs.Circuits.{Circuit}
use Rattle.circuit.specs.Triplicated.{ReadPart}
use Rattle.design_checks.specs.CopyChecks as checks
use Rattle.design_checks.specs.CopyChecks.{part_in, AlikeIn, RegistersDiffer, IsFirstField}
use Rattle.copy_rules.specs.declared.field.Field.{Field}
use Rattle.copy_rules.specs.Fields.{field_of}

-- the part with a number is this register, or it is none
abbrev pub IsRegisterAt : List Source → ℕ → RegisterCell → Type 0
IsRegisterAt all k r = (s : Source) × ((slice_get all k ≡ Some s) × (s.kind ≡ OfRegister r))

abbrev pub NoRegisterAt : List Source → ℕ → Type 0
NoRegisterAt all k = (r : RegisterCell) → IsRegisterAt all k r → ⊥

-- the answer tells whether two registers are alike in a field
abbrev pub AlikeTold : Circuit → ℕ → ℕ → RegisterCell → RegisterCell → checks.Field → Bool → Type 0
AlikeTold c j k q r f result = (s u : Source) → slice_get (sources c.cells) j ≡ Some s → slice_get (sources c.cells) k ≡ Some u → s.kind ≡ OfRegister q → u.kind ≡ OfRegister r
    → IsTrue result ↔ AlikeIn c f s.part u.part q r

-- the parts with two numbers are registers that differ in a field
pub record DiffersAt (c : Circuit) (f : checks.Field) (j k : ℕ) : Type 0 where
  pub first : Source
  pub second : Source
  pub q : RegisterCell
  pub r : RegisterCell
  pub first_at : slice_get (sources c.cells) j ≡ Some first
  pub second_at : slice_get (sources c.cells) k ≡ Some second
  pub first_kind : first.kind ≡ OfRegister q
  pub second_kind : second.kind ≡ OfRegister r
  pub differs : AlikeIn c f first.part second.part q r → ⊥

-- one of the copies differs from the part with a number
abbrev pub DiffersFrom : Circuit → checks.Field → List ℕ → ℕ → Type 0
DiffersFrom c f copies j = (i : ℕ) × ((i < length copies) × DiffersAt c f j (get_or copies i 0))

-- two of the copies differ
abbrev pub SomeDiffer : Circuit → checks.Field → List ℕ → Type 0
SomeDiffer c f copies = (i : ℕ) × ((i < length copies) × DiffersFrom c f copies (get_or copies i 0))

-- the part with a number is a read copy of a register of a triple
pub record IsReadCopy (c : Circuit) (t : Triple) (number k : ℕ) : Type 0 where
  pub source : Source
  pub numbered : slice_get (sources c.cells) k ≡ Some source
  pub cell : List ℕ
  pub copy : IsEntry t cell
  pub is : source.part ≡ part_in cell (Register number)
  pub read : ReadPart c source

-- the list has the numbers of the read copies of a register of a triple
pub record AreReadCopies (c : Circuit) (t : Triple) (number : ℕ) (copies : List ℕ) : Type 0 where
  pub each : (i : ℕ) → i < length copies → IsReadCopy c t number (get_or copies i 0)
  pub all : (k : ℕ) → IsReadCopy c t number k → (i : ℕ) × ((i < length copies) × (get_or copies i 0 ≡ k))

-- the first field in which read copies differ, or none where they differ in none
abbrev pub TellsField : Circuit → Triple → ℕ → Option Field → Type 0
TellsField c t number None = (f : checks.Field) → RegistersDiffer c t number (AlikeIn c f) → ⊥
TellsField c t number (Some f) = IsFirstField c t number (field_of f)
