-- Orders of parts by the links into tables. (Our own.)
use Rattle.std.specs.Prelude.{◌≡◌, ℕ, ◌<◌, List, length, Option, Some, slice_get}
use Rattle.std.specs.declared.cmp.Ordering.TheVariants.{Less}
use Rattle.words.specs.Members.{In}
use Rattle.fabric.specs.Wires.{name_cmp}
use Rattle.circuit.specs.Cells.{SliceCell, Cells}
use Rattle.circuit.specs.Parts.{Source, sources}
use Rattle.circuit.specs.Circuits.{Circuit}
use Rattle.answers.specs.Refusals as refusals
use Rattle.design_checks.specs.PinChecks.{TablesLoop}
use Rattle.cycle_order.specs.declared.error.OrderError.{OrderError}
use Rattle.cycle_order.specs.declared.error.OrderError.TheVariants.{Loop, Memory}
use Rattle.net_order.specs.Links.{links_with}

-- a part feeds a pin of a table, both by number
abbrev pub IsLinked : Cells → List (Option ℕ) → ℕ → ℕ → Type 0
IsLinked cells feeds j k = In (links_with cells feeds) (record { source = j; table = k })

-- what feeds pins are parts of the cells
abbrev pub AreKnown : Cells → List (Option ℕ) → Type 0
AreKnown cells feeds = (j : ℕ) → In feeds (Some j) → j < length (sources cells)

-- The slices stand in byte order of their names, and no two have one name.
pub record AreInNameOrder (cells : Cells) : Type 0 where
  pub rises : (i j : ℕ) (s u : SliceCell) → i < j → slice_get cells.slices i ≡ Some s → slice_get cells.slices j ≡ Some u → name_cmp s.name u.name ≡ Less

-- an error names the least table that reaches itself, by number; want of memory says nothing of the circuit
abbrev pub Refuses : Circuit → OrderError → Type 0
Refuses c (Loop k) = (s : Source) × ((slice_get (sources c.cells) k ≡ Some s) × TablesLoop c (refusals.Loop s.part))
Refuses c Memory = Unit {0}
