use Rattle.std.proofs.lemmas.Result.{err_from_is_err_and}
use Rattle.cells.specs.Faults.{shape_fault}
use Rattle.cell_readings.specs.Errors.{fault_of}
use Rattle.cell_readings.proofs.First.{first_passed, first_found, first_end}
use Rattle.slice_model.proofs.shapes.first_of_triples.Goals as goal

pub loop-triple-preserved : goal.loop-triple-preserved
loop-triple-preserved g c =
    first_passed (shape_fault (g.G.NamedGraph.graph c.args.graph.now) c.args.kinds.now c.args.names.now) c.args.triples.now c.loop-triple.triple-index c.triple-item.result c.loop-triple-test.true c.triple-item.is c.in_ok-shape_fault.ensures c.loop-triple.invariant

pub returns-in_err-shape_fault : goal.returns-in_err-shape_fault
returns-in_err-shape_fault g c =
    let p = err_from_is_err_and c.from_residual.result c.from_residual.ensures.1 in
    rw (p.1, p.2)
    (first_found (shape_fault (g.G.NamedGraph.graph c.args.graph.now) c.args.kinds.now c.args.names.now) c.args.triples.now c.loop-triple.triple-index c.triple-item.result (fault_of c.in_err-shape_fault.field-0.0) c.loop-triple-test.true c.triple-item.is
    c.in_err-shape_fault.ensures c.loop-triple.invariant)

pub returns : goal.returns
returns g c = first_end (shape_fault (g.G.NamedGraph.graph c.args.graph.now) c.args.kinds.now c.args.names.now) c.args.triples.now c.loop-triple.triple-index c.loop-triple-test.false c.loop-triple.invariant
