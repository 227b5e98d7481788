-- The numbers of parts by their names, and of the three copies of a part. (Our own.)
use Rattle.std.specs.Prelude.{◌≡◌, ℕ, List, slice_get, Option, None, Some}
use Rattle.words.specs.Members.{In}
use Rattle.records.specs.Side.{Triple}
use Rattle.circuit.specs.Cells.{Cells}
use Rattle.circuit.specs.Parts.{PartKind, PartRef, Source, sources}
use Rattle.design_checks.specs.CopyChecks.{part_in}
use Rattle.part_copies.specs.declared.numbers.CopyNumbers.{CopyNumbers}

-- no part has two numbers
abbrev pub AreNumberedOnce : Cells → Type 0
AreNumberedOnce cells = (i j : ℕ) (s u : Source) → slice_get (sources cells) i ≡ Some s → slice_get (sources cells) j ≡ Some u → s.part ≡ u.part → i ≡ j

-- the number of the part with a name, or none where there is no such part
abbrev pub IsPartNumber : List Source → PartRef → Option ℕ → Type 0
IsPartNumber all part None = (s : Source) → In all s → s.part ≡ part → ⊥
IsPartNumber all part (Some k) = (s : Source) × ((slice_get all k ≡ Some s) × (s.part ≡ part))

-- the numbers of the parts of one kind in the three cells of a triple
pub record AreCopyNumbers (all : List Source) (t : Triple) (kind : PartKind) (numbers : CopyNumbers) : Type 0 where
  pub first : IsPartNumber all (part_in t.first kind) numbers.first
  pub second : IsPartNumber all (part_in t.second kind) numbers.second
  pub third : IsPartNumber all (part_in t.third kind) numbers.third
