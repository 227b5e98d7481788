use Rattle.std.proofs.Common.{◌≡◌, drop}
use Rattle.cells.specs.Faults.{value_fault}
use Rattle.cells.specs.Readings.{require_reading}
use Rattle.cram_image.specs.Image.{bits}
use Rattle.cell_readings.specs.First.{first_of}
use Rattle.cell_readings.proofs.lists.first_required.Given as goal

-- the fault of those that are left is that of all
abbrev pub invariant-loop-require : goal.invariant-loop-require
invariant-loop-require g l = first_of (λ x. value_fault (require_reading (g.G.NamedGraph.graph l.graph) (bits l.image) l.cell l.t x)) (drop l.require-index l.requirements) ≡ first_of (λ x. value_fault (require_reading (g.G.NamedGraph.graph l.graph) (bits l.image) l.cell l.t x)) l.requirements
