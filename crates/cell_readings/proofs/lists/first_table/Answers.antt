use Rattle.std.proofs.lemmas.Result.{err_from_is_err_and}
use Rattle.cells.specs.Faults.{value_fault}
use Rattle.cells.specs.Readings.{table_reading}
use Rattle.cram_image.specs.Image.{bits}
use Rattle.cell_readings.specs.Errors.{fault_of}
use Rattle.cell_readings.proofs.First.{first_passed, first_found, first_end}
use Rattle.cell_readings.proofs.lists.first_table.Goals as goal

pub loop-table-preserved : goal.loop-table-preserved
loop-table-preserved g c = first_passed (λ x. value_fault (table_reading (g.G.NamedGraph.graph c.args.graph.now) (bits c.args.image.now) c.args.cell.now c.args.t x)) c.args.tables.now c.loop-table.table-index c.table-item.result c.loop-table-test.true c.table-item.is c.in_ok-table_fault.ensures c.loop-table.invariant

pub returns-in_err-table_fault : goal.returns-in_err-table_fault
returns-in_err-table_fault g c =
    let p = err_from_is_err_and c.from_residual.result c.from_residual.ensures.1 in
    rw (p.1, p.2) (first_found (λ x. value_fault (table_reading (g.G.NamedGraph.graph c.args.graph.now) (bits c.args.image.now) c.args.cell.now c.args.t x)) c.args.tables.now c.loop-table.table-index c.table-item.result (fault_of c.in_err-table_fault.field-0.0) c.loop-table-test.true c.table-item.is c.in_err-table_fault.ensures c.loop-table.invariant)

pub returns : goal.returns
returns g c = first_end (λ x. value_fault (table_reading (g.G.NamedGraph.graph c.args.graph.now) (bits c.args.image.now) c.args.cell.now c.args.t x)) c.args.tables.now c.loop-table.table-index c.loop-table-test.false c.loop-table.invariant
