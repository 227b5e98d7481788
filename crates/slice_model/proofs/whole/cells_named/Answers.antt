-- The parts of the cells in turn.
use Rattle.std.proofs.Common.{List, subst}
use Rattle.std.proofs.lemmas.Result.{err_from_is_err_and}
use Rattle.words.specs.Firsts.{unless_fault}
use Rattle.words.specs.OrMemory.{OrMemory}
use Rattle.records.specs.Profile.{SliceKind, PadKind}
use Rattle.records.specs.Side.{Placed}
use Rattle.cells.specs.Sites.{Site}
use Rattle.cram_image.specs.Image.{bits}
use Rattle.cell_readings.specs.Errors.{fault_of}
use Rattle.slice_model.specs.Grid.{AllPlaced, HaveFewPins}
use Rattle.slice_model.specs.Turns.{faults_at, cells_at}
use Rattle.slice_model.proofs.Ending.{no_slice, no_pad, no_shape, slices_placed, pads_placed, few_pins, ended}
use Rattle.slice_model.proofs.whole.cells_named.Goals as goal

pub returns-in_err-slices : goal.returns-in_err-slices
returns-in_err-slices g c =
    let p = err_from_is_err_and c.from_residual.result c.from_residual.ensures.1 in
    rw (p.1, p.2) (no_slice (g.G.NamedGraph.graph c.args.graph.now) c.args.profile.now c.args.kinds.now (bits c.args.image.now) c.args.side.now c.args.names.now c.requires.kinds c.requires.names (fault_of c.in_err-slices.field-0.0) c.in_err-slices.ensures)

pub returns-in_err-pads : goal.returns-in_err-pads
returns-in_err-pads g c =
    let p = err_from_is_err_and c.from_residual-in_err-pads.result c.from_residual-in_err-pads.ensures.1 in
    rw (p.1, p.2) (no_pad (g.G.NamedGraph.graph c.args.graph.now) c.args.profile.now c.args.kinds.now (bits c.args.image.now) c.args.side.now c.args.names.now c.requires.kinds c.requires.names c.in_ok-slices.slices.items c.in_ok-slices.ensures (fault_of c.in_err-pads.field-0.0) c.in_err-pads.ensures)

pub returns-in_err-first_unlike : goal.returns-in_err-first_unlike
returns-in_err-first_unlike g c =
    let p = err_from_is_err_and c.from_residual-in_err-first_unlike.result c.from_residual-in_err-first_unlike.ensures.1 in
    rw (p.1, p.2)
    (no_shape (g.G.NamedGraph.graph c.args.graph.now) c.args.profile.now c.args.kinds.now (bits c.args.image.now) c.args.side.now c.args.names.now c.requires.kinds c.requires.names c.in_ok-slices.slices.items c.in_ok-slices.ensures c.in_ok-pads.pads.items c.in_ok-pads.ensures (fault_of c.in_err-first_unlike.field-0.0) c.in_err-first_unlike.ensures)

pub cells_at_sites-requires-clause-slices_at : goal.cells_at_sites-requires-clause-slices_at
cells_at_sites-requires-clause-slices_at g c = rw c.as_slice.ensures.value (slices_placed (g.G.NamedGraph.graph c.args.graph.now) c.args.profile.now c.args.kinds.now (bits c.args.image.now) c.args.side.now c.args.names.now c.requires.kinds c.requires.names c.in_ok-slices.slices.items c.in_ok-slices.ensures)

pub cells_at_sites-requires-clause-pads_at : goal.cells_at_sites-requires-clause-pads_at
cells_at_sites-requires-clause-pads_at g c =
    rw c.as_slice-2.ensures.value (pads_placed (g.G.NamedGraph.graph c.args.graph.now) c.args.profile.now c.args.kinds.now (bits c.args.image.now) c.args.side.now c.args.names.now c.requires.kinds c.requires.names c.in_ok-slices.slices.items c.in_ok-slices.ensures c.in_ok-pads.pads.items c.in_ok-pads.ensures)

pub cells_at_sites-requires-clause-few : goal.cells_at_sites-requires-clause-few
cells_at_sites-requires-clause-few g c = rw c.as_slice.ensures.value (few_pins (g.G.NamedGraph.graph c.args.graph.now) c.args.profile.now c.args.kinds.now (bits c.args.image.now) c.args.side.now c.args.names.now c.requires.kinds c.requires.names c.in_ok-slices.slices.items c.in_ok-slices.ensures c.requires.few)

pub returns : goal.returns
returns g c =
    ended (g.G.NamedGraph.graph c.args.graph.now) c.args.profile.now c.args.kinds.now (bits c.args.image.now) c.args.side.now c.args.names.now c.requires.kinds c.requires.names c.in_ok-slices.slices.items c.in_ok-slices.ensures c.in_ok-pads.pads.items c.in_ok-pads.ensures fault_of c.cells_at_sites.result c.in_ok-first_unlike.ensures
    (subst (λ (ss : List (Placed × Site SliceKind)). OrMemory (λ cells. cells) fault_of c.cells_at_sites.result
    (unless_fault (faults_at (g.G.NamedGraph.graph c.args.graph.now) c.args.profile.now (bits c.args.image.now) c.args.names.now ss c.in_ok-pads.pads.items) (cells_at (g.G.NamedGraph.graph c.args.graph.now) c.args.profile.now (bits c.args.image.now) c.args.names.now ss c.in_ok-pads.pads.items))) c.as_slice.ensures.value
    (subst (λ (ps : List (Placed × Site PadKind)). OrMemory (λ cells. cells) fault_of c.cells_at_sites.result
    (unless_fault (faults_at (g.G.NamedGraph.graph c.args.graph.now) c.args.profile.now (bits c.args.image.now) c.args.names.now c.as_slice.result.now ps) (cells_at (g.G.NamedGraph.graph c.args.graph.now) c.args.profile.now (bits c.args.image.now) c.args.names.now c.as_slice.result.now ps))) c.as_slice-2.ensures.value
    c.cells_at_sites.ensures))
