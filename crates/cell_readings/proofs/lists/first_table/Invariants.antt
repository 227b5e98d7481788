use Rattle.std.proofs.Common.{◌≡◌, drop}
use Rattle.cells.specs.Faults.{value_fault}
use Rattle.cells.specs.Readings.{table_reading}
use Rattle.cram_image.specs.Image.{bits}
use Rattle.cell_readings.specs.First.{first_of}
use Rattle.cell_readings.proofs.lists.first_table.Given as goal

-- the fault of those that are left is that of all
abbrev pub invariant-loop-table : goal.invariant-loop-table
invariant-loop-table g l = first_of (λ x. value_fault (table_reading (g.G.NamedGraph.graph l.graph) (bits l.image) l.cell l.t x)) (drop l.table-index l.tables) ≡ first_of (λ x. value_fault (table_reading (g.G.NamedGraph.graph l.graph) (bits l.image) l.cell l.t x)) l.tables
