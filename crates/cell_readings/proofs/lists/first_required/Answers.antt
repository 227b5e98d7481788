use Rattle.std.proofs.lemmas.Result.{err_from_is_err_and}
use Rattle.cells.specs.Faults.{value_fault}
use Rattle.cells.specs.Readings.{require_reading}
use Rattle.cram_image.specs.Image.{bits}
use Rattle.cell_readings.specs.Errors.{fault_of}
use Rattle.cell_readings.proofs.First.{first_passed, first_found, first_end}
use Rattle.cell_readings.proofs.lists.first_required.Goals as goal

pub loop-require-preserved : goal.loop-require-preserved
loop-require-preserved g c = first_passed (λ x. value_fault (require_reading (g.G.NamedGraph.graph c.args.graph.now) (bits c.args.image.now) c.args.cell.now c.args.t x)) c.args.requirements.now c.loop-require.require-index c.require-item.result c.loop-require-test.true c.require-item.is c.in_ok-require_fault.ensures c.loop-require.invariant

pub returns-in_err-require_fault : goal.returns-in_err-require_fault
returns-in_err-require_fault g c =
    let p = err_from_is_err_and c.from_residual.result c.from_residual.ensures.1 in
    rw (p.1, p.2) (first_found (λ x. value_fault (require_reading (g.G.NamedGraph.graph c.args.graph.now) (bits c.args.image.now) c.args.cell.now c.args.t x)) c.args.requirements.now c.loop-require.require-index c.require-item.result (fault_of c.in_err-require_fault.field-0.0) c.loop-require-test.true c.require-item.is c.in_err-require_fault.ensures c.loop-require.invariant)

pub returns : goal.returns
returns g c = first_end (λ x. value_fault (require_reading (g.G.NamedGraph.graph c.args.graph.now) (bits c.args.image.now) c.args.cell.now c.args.t x)) c.args.requirements.now c.loop-require.require-index c.loop-require-test.false c.loop-require.invariant
