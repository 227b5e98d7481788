use Rattle.std.proofs.lemmas.Result.{err_from_is_err_and}
use Rattle.records.specs.Profile.{PadKind}
use Rattle.records.specs.Side.{Placed}
use Rattle.cells.specs.Sites.{Site}
use Rattle.cells.specs.Faults.{value_fault}
use Rattle.cells.specs.Readings.{pad_reading}
use Rattle.cram_image.specs.Image.{bits}
use Rattle.cell_readings.specs.Errors.{fault_of}
use Rattle.cell_readings.specs.First.{first_of}
use Rattle.cell_readings.proofs.First.{first_passed, first_found, first_end}
use Rattle.slice_model.proofs.AtSites.{stands_below}
use Rattle.slice_model.proofs.Walking.{item_in}
use Rattle.slice_model.proofs.values.first_of_pads.Goals as goal

pub pad_value-requires-clause-there : goal.pad_value-requires-clause-there
pad_value-requires-clause-there g c = stands_below (g.G.NamedGraph.graph c.args.graph.now) c.pad-item.result.1 (c.requires.at.each c.pad-item.result (item_in c.args.pads.now c.loop-pad.pad-index c.pad-item.result c.loop-pad-test.true c.pad-item.is))

pub loop-pad-preserved : goal.loop-pad-preserved
loop-pad-preserved g c = first_passed (λ (q : Placed × Site PadKind). value_fault (pad_reading (g.G.NamedGraph.graph c.args.graph.now) (bits c.args.image.now) c.args.names.now q.0 q.1)) c.args.pads.now c.loop-pad.pad-index c.pad-item.result c.loop-pad-test.true c.pad-item.is c.in_ok-pad_value.ensures c.loop-pad.invariant

pub returns-in_err-pad_value : goal.returns-in_err-pad_value
returns-in_err-pad_value g c =
    let p = err_from_is_err_and c.from_residual.result c.from_residual.ensures.1 in
    rw (p.1, p.2)
    (first_found (λ (q : Placed × Site PadKind). value_fault (pad_reading (g.G.NamedGraph.graph c.args.graph.now) (bits c.args.image.now) c.args.names.now q.0 q.1)) c.args.pads.now c.loop-pad.pad-index c.pad-item.result (fault_of c.in_err-pad_value.field-0.0) c.loop-pad-test.true c.pad-item.is c.in_err-pad_value.ensures c.loop-pad.invariant)

pub returns : goal.returns
returns g c = first_end (λ (q : Placed × Site PadKind). value_fault (pad_reading (g.G.NamedGraph.graph c.args.graph.now) (bits c.args.image.now) c.args.names.now q.0 q.1)) c.args.pads.now c.loop-pad.pad-index c.loop-pad-test.false c.loop-pad.invariant
