use Rattle.std.proofs.lemmas.Result.{err_from_is_err_and}
use Rattle.cells.specs.Faults.{value_fault}
use Rattle.cells.specs.Readings.{register_readings}
use Rattle.cram_image.specs.Image.{bits}
use Rattle.cell_readings.specs.Errors.{fault_of}
use Rattle.cell_readings.specs.First.{first_of}
use Rattle.cell_readings.proofs.First.{first_passed, first_found, first_end}
use Rattle.cell_readings.proofs.lists.first_register.Goals as goal

pub loop-register-preserved : goal.loop-register-preserved
loop-register-preserved g c = first_passed (λ x. first_of value_fault (register_readings (g.G.NamedGraph.graph c.args.graph.now) (bits c.args.image.now) c.args.cell.now c.args.t x)) c.args.registers.now c.loop-register.register-index c.register-item.result c.loop-register-test.true c.register-item.is c.in_ok-register_fault.ensures c.loop-register.invariant

pub returns-in_err-register_fault : goal.returns-in_err-register_fault
returns-in_err-register_fault g c =
    let p = err_from_is_err_and c.from_residual.result c.from_residual.ensures.1 in
    rw (p.1, p.2) (first_found (λ x. first_of value_fault (register_readings (g.G.NamedGraph.graph c.args.graph.now) (bits c.args.image.now) c.args.cell.now c.args.t x)) c.args.registers.now c.loop-register.register-index c.register-item.result (fault_of c.in_err-register_fault.field-0.0) c.loop-register-test.true c.register-item.is c.in_err-register_fault.ensures c.loop-register.invariant)

pub returns : goal.returns
returns g c = first_end (λ x. first_of value_fault (register_readings (g.G.NamedGraph.graph c.args.graph.now) (bits c.args.image.now) c.args.cell.now c.args.t x)) c.args.registers.now c.loop-register.register-index c.loop-register-test.false c.loop-register.invariant
