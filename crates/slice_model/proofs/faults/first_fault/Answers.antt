use Rattle.std.proofs.lemmas.Result.{err_from_is_err_and}
use Rattle.words.specs.Firsts.{or_else}
use Rattle.cells.specs.Sites.{unnamed_pads}
use Rattle.cram_image.specs.Image.{bits}
use Rattle.cell_readings.specs.Errors.{fault_of}
use Rattle.cell_readings.proofs.First.{found_first, found_later, result_later}
use Rattle.slice_model.specs.Turns.{slices_fault, pads_fault, unnamed_faults}
use Rattle.slice_model.proofs.faults.first_fault.Goals as goal

pub returns-in_err-first_of_slices : goal.returns-in_err-first_of_slices
returns-in_err-first_of_slices g c =
    let p = err_from_is_err_and c.from_residual.result c.from_residual.ensures.1 in
    rw (p.1, p.2) (found_first (slices_fault (g.G.NamedGraph.graph c.args.graph.now) (bits c.args.image.now) c.args.slices.now) (or_else (pads_fault (g.G.NamedGraph.graph c.args.graph.now) (bits c.args.image.now) c.args.names.now c.args.pads.now) (unnamed_faults (g.G.NamedGraph.graph c.args.graph.now) (bits c.args.image.now) (unnamed_pads (g.G.NamedGraph.graph c.args.graph.now) c.args.profile.now c.args.names.now))) (fault_of c.in_err-first_of_slices.field-0.0) c.in_err-first_of_slices.ensures)

pub returns-in_err-first_of_pads : goal.returns-in_err-first_of_pads
returns-in_err-first_of_pads g c =
    let p = err_from_is_err_and c.from_residual-in_err-first_of_pads.result c.from_residual-in_err-first_of_pads.ensures.1 in
    rw (p.1, p.2)
    (found_later (slices_fault (g.G.NamedGraph.graph c.args.graph.now) (bits c.args.image.now) c.args.slices.now) (or_else (pads_fault (g.G.NamedGraph.graph c.args.graph.now) (bits c.args.image.now) c.args.names.now c.args.pads.now) (unnamed_faults (g.G.NamedGraph.graph c.args.graph.now) (bits c.args.image.now) (unnamed_pads (g.G.NamedGraph.graph c.args.graph.now) c.args.profile.now c.args.names.now))) (fault_of c.in_err-first_of_pads.field-0.0) c.in_ok-first_of_slices.ensures
    (found_first (pads_fault (g.G.NamedGraph.graph c.args.graph.now) (bits c.args.image.now) c.args.names.now c.args.pads.now) (unnamed_faults (g.G.NamedGraph.graph c.args.graph.now) (bits c.args.image.now) (unnamed_pads (g.G.NamedGraph.graph c.args.graph.now) c.args.profile.now c.args.names.now)) (fault_of c.in_err-first_of_pads.field-0.0) c.in_err-first_of_pads.ensures))

pub returns : goal.returns
returns g c =
    result_later fault_of c.first_of_others.result (slices_fault (g.G.NamedGraph.graph c.args.graph.now) (bits c.args.image.now) c.args.slices.now) (or_else (pads_fault (g.G.NamedGraph.graph c.args.graph.now) (bits c.args.image.now) c.args.names.now c.args.pads.now) (unnamed_faults (g.G.NamedGraph.graph c.args.graph.now) (bits c.args.image.now) (unnamed_pads (g.G.NamedGraph.graph c.args.graph.now) c.args.profile.now c.args.names.now))) c.in_ok-first_of_slices.ensures
    (result_later fault_of c.first_of_others.result (pads_fault (g.G.NamedGraph.graph c.args.graph.now) (bits c.args.image.now) c.args.names.now c.args.pads.now) (unnamed_faults (g.G.NamedGraph.graph c.args.graph.now) (bits c.args.image.now) (unnamed_pads (g.G.NamedGraph.graph c.args.graph.now) c.args.profile.now c.args.names.now)) c.in_ok-first_of_pads.ensures c.first_of_others.ensures)
