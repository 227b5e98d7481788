use Rattle.std.proofs.lemmas.Result.{err_from_is_err_and}
use Rattle.records.specs.Profile.{PadKind}
use Rattle.cells.specs.Sites.{Site}
use Rattle.cells.specs.Faults.{value_fault}
use Rattle.cells.specs.Readings.{unnamed_reading}
use Rattle.cram_image.specs.Image.{bits}
use Rattle.cell_readings.specs.Errors.{fault_of}
use Rattle.cell_readings.specs.First.{first_of}
use Rattle.cell_readings.proofs.First.{first_passed, first_found, first_end}
use Rattle.slice_model.proofs.AtSites.{stands_below}
use Rattle.slice_model.proofs.Walking.{item_in}
use Rattle.slice_model.proofs.values.first_of_unnamed.Goals as goal

pub unnamed_value-requires-clause-there : goal.unnamed_value-requires-clause-there
unnamed_value-requires-clause-there g c = stands_below (g.G.NamedGraph.graph c.args.graph.now) c.site-item.result (c.requires.at.each c.site-item.result (item_in c.args.sites.now c.loop-site.site-index c.site-item.result c.loop-site-test.true c.site-item.is))

pub loop-site-preserved : goal.loop-site-preserved
loop-site-preserved g c = first_passed (λ (s : Site PadKind). value_fault (unnamed_reading (g.G.NamedGraph.graph c.args.graph.now) (bits c.args.image.now) s)) c.args.sites.now c.loop-site.site-index c.site-item.result c.loop-site-test.true c.site-item.is c.in_ok-unnamed_value.ensures c.loop-site.invariant

pub returns-in_err-unnamed_value : goal.returns-in_err-unnamed_value
returns-in_err-unnamed_value g c =
    let p = err_from_is_err_and c.from_residual.result c.from_residual.ensures.1 in
    rw (p.1, p.2)
    (first_found (λ (s : Site PadKind). value_fault (unnamed_reading (g.G.NamedGraph.graph c.args.graph.now) (bits c.args.image.now) s)) c.args.sites.now c.loop-site.site-index c.site-item.result (fault_of c.in_err-unnamed_value.field-0.0) c.loop-site-test.true c.site-item.is c.in_err-unnamed_value.ensures c.loop-site.invariant)

pub returns : goal.returns
returns g c = first_end (λ (s : Site PadKind). value_fault (unnamed_reading (g.G.NamedGraph.graph c.args.graph.now) (bits c.args.image.now) s)) c.args.sites.now c.loop-site.site-index c.loop-site-test.false c.loop-site.invariant
