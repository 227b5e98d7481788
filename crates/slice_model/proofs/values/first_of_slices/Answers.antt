use Rattle.std.proofs.lemmas.Result.{err_from_is_err_and}
use Rattle.records.specs.Profile.{SliceKind}
use Rattle.records.specs.Side.{Placed}
use Rattle.cells.specs.Sites.{Site}
use Rattle.cells.specs.Faults.{value_fault}
use Rattle.cells.specs.Readings.{slice_readings}
use Rattle.cram_image.specs.Image.{bits}
use Rattle.cell_readings.specs.Errors.{fault_of}
use Rattle.cell_readings.specs.First.{first_of}
use Rattle.cell_readings.proofs.First.{first_passed, first_found, first_end}
use Rattle.slice_model.proofs.AtSites.{stands_below}
use Rattle.slice_model.proofs.Walking.{item_in}
use Rattle.slice_model.proofs.values.first_of_slices.Goals as goal

pub slice_value-requires-clause-there : goal.slice_value-requires-clause-there
slice_value-requires-clause-there g c = stands_below (g.G.NamedGraph.graph c.args.graph.now) c.slice-item.result.1 (c.requires.at.each c.slice-item.result (item_in c.args.slices.now c.loop-slice.slice-index c.slice-item.result c.loop-slice-test.true c.slice-item.is))

pub loop-slice-preserved : goal.loop-slice-preserved
loop-slice-preserved g c = first_passed (λ (q : Placed × Site SliceKind). first_of value_fault (slice_readings (g.G.NamedGraph.graph c.args.graph.now) (bits c.args.image.now) q.0 q.1)) c.args.slices.now c.loop-slice.slice-index c.slice-item.result c.loop-slice-test.true c.slice-item.is c.in_ok-slice_value.ensures c.loop-slice.invariant

pub returns-in_err-slice_value : goal.returns-in_err-slice_value
returns-in_err-slice_value g c =
    let p = err_from_is_err_and c.from_residual.result c.from_residual.ensures.1 in
    rw (p.1, p.2)
    (first_found (λ (q : Placed × Site SliceKind). first_of value_fault (slice_readings (g.G.NamedGraph.graph c.args.graph.now) (bits c.args.image.now) q.0 q.1)) c.args.slices.now c.loop-slice.slice-index c.slice-item.result (fault_of c.in_err-slice_value.field-0.0) c.loop-slice-test.true c.slice-item.is c.in_err-slice_value.ensures c.loop-slice.invariant)

pub returns : goal.returns
returns g c = first_end (λ (q : Placed × Site SliceKind). first_of value_fault (slice_readings (g.G.NamedGraph.graph c.args.graph.now) (bits c.args.image.now) q.0 q.1)) c.args.slices.now c.loop-slice.slice-index c.loop-slice-test.false c.loop-slice.invariant
