use Rattle.std.proofs.Common.{◌≡◌, drop}
use Rattle.cells.specs.Faults.{value_fault}
use Rattle.cells.specs.Readings.{register_readings}
use Rattle.cram_image.specs.Image.{bits}
use Rattle.cell_readings.specs.First.{first_of}
use Rattle.cell_readings.proofs.lists.first_register.Given as goal

-- the fault of those that are left is that of all
abbrev pub invariant-loop-register : goal.invariant-loop-register
invariant-loop-register g l = first_of (λ x. first_of value_fault (register_readings (g.G.NamedGraph.graph l.graph) (bits l.image) l.cell l.t x)) (drop l.register-index l.registers) ≡ first_of (λ x. first_of value_fault (register_readings (g.G.NamedGraph.graph l.graph) (bits l.image) l.cell l.t x)) l.registers
