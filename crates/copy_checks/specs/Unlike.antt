-- The least part whose copies differ, as it is looked for. (Our own.)
use Rattle.std.specs.Prelude.{◌≡◌, ◌≢◌, ℕ, ◌<◌, Bool, List, slice_get, Option, None, Some}
use Rattle.std.specs.declared.cmp.Ordering.TheVariants.{Greater}
use Rattle.records.specs.Side.{Triple}
use Rattle.circuit.specs.Parts.{PartKind, Table, Register, Pad, PartRef}
use Rattle.circuit.specs.Circuits.{Circuit}
use Rattle.answers.specs.Refusals.{CopiesDiffer}
use Rattle.attempts.specs.PinOrder.{part_cmp}
use Rattle.cell_parts.specs.PartViews.{part_of}
use Rattle.design_checks.specs.Checks.{Passes}
use Rattle.design_checks.specs.CopyChecks.{part_in, TablesDiffer, Field, IsFirstField, OutputsDiffer, DifferIn, CopiesUnlike}
use Rattle.copy_checks.specs.declared.unlike.Unlike.{Unlike}
use Rattle.copy_checks.specs.declared.numbered.Numbered.{Numbered}
use Rattle.copy_checks.specs.declared.numbered.Numbered.TheVariants.{Tables, Registers}

-- the part, by the copy of domain 0
abbrev pub named : Unlike → PartRef
named u = part_in u.cell.now (part_of u.part)

-- a table or a register by its number
abbrev pub kind_at : Numbered → ℕ → PartKind
kind_at Tables n = Table n
kind_at Registers n = Register n

-- the copies of a part of a triple differ
abbrev pub DiffersAt : Circuit → Triple → PartKind → Type 0
DiffersAt c t (Table n) = (digits : List Bool) × ((outputs : List ℕ) × TablesDiffer c t n digits outputs)
DiffersAt c t (Register n) = (f : Field) × IsFirstField c t n f
DiffersAt c t Pad = OutputsDiffer c t

-- the copies of a part of a triple differ, and in what, or they don't
abbrev pub IsAnswer : Circuit → Triple → PartKind → Option Unlike → Type 0
IsAnswer c t kind None = DiffersAt c t kind → ⊥
IsAnswer c t kind (Some u) = (named u ≡ part_in t.first kind) × DifferIn c (named u) u.what.items

-- what was found differs so
abbrev pub IsTold : Circuit → Option Unlike → Type 0
IsTold c None = Unit {0}
IsTold c (Some u) = DifferIn c (named u) u.what.items

-- what was found comes after no such part
abbrev pub NotAfter : Option Unlike → PartRef → Type 0
NotAfter None p = ⊥
NotAfter (Some u) p = part_cmp (named u) p ≢ Greater

-- what was found differs so, and comes no later than before
pub record Gains (c : Circuit) (old new : Option Unlike) : Type 0 where
  pub told : IsTold c old → IsTold c new
  pub keeps : (p : PartRef) → NotAfter old p → NotAfter new p

-- what was found comes after no part of a triple whose copies differ
abbrev pub Covers : Circuit → Triple → PartKind → Option Unlike → Type 0
Covers c t kind found = DiffersAt c t kind → NotAfter found (part_in t.first kind)

-- the next one where it is the first or comes before the least so far, which stays otherwise
abbrev pub IsLesser : Option Unlike → Unlike → Unlike → Type 0
IsLesser None next result = result ≡ next
IsLesser (Some first) next result = (part_cmp (named first) (named next) ≡ Greater → result ≡ next) × (part_cmp (named first) (named next) ≢ Greater → result ≡ first)

-- the copies of one part more are looked at
abbrev pub WithPart : Circuit → Triple → PartKind → Option Unlike → Option Unlike → Type 0
WithPart c t kind old new = Gains c old new × Covers c t kind new

-- those of all tables or registers of a triple are
abbrev pub WithKind : Circuit → Triple → Numbered → Option Unlike → Option Unlike → Type 0
WithKind c t which old new = Gains c old new × ((n : ℕ) → Covers c t (kind_at which n) new)

-- those of all tables and registers of a triple are
abbrev pub WithTriple : Circuit → Triple → Option Unlike → Option Unlike → Type 0
WithTriple c t old new = Gains c old new × ((which : Numbered) (n : ℕ) → Covers c t (kind_at which n) new)

-- those of the first triples of slices are
abbrev pub WithTriples : Circuit → List Triple → ℕ → Option Unlike → Option Unlike → Type 0
WithTriples c ts n old new = Gains c old new × ((i : ℕ) (t : Triple) → i < n → slice_get ts i ≡ Some t → (which : Numbered) (m : ℕ) → Covers c t (kind_at which m) new)

-- those of the first triples of output pads are
abbrev pub WithOutputs : Circuit → List Triple → ℕ → Option Unlike → Option Unlike → Type 0
WithOutputs c ts n old new = Gains c old new × ((i : ℕ) (t : Triple) → i < n → slice_get ts i ≡ Some t → Covers c t Pad new)

-- the check of copies passes, or it refuses this part
abbrev pub TellsUnlike : Circuit → Option Unlike → Type 0
TellsUnlike c None = Passes (CopiesUnlike c)
TellsUnlike c (Some u) = CopiesUnlike c (CopiesDiffer (part_in u.cell.now (part_of u.part)) u.what.items)
