use Rattle.std.proofs.lemmas.Result.{err_from_is_err_and}
use Rattle.cells.specs.Faults.{unnamed_fault}
use Rattle.cram_image.specs.Image.{bits}
use Rattle.cell_readings.specs.Errors.{fault_of}
use Rattle.cell_readings.proofs.First.{first_passed, first_found, first_end}
use Rattle.slice_model.proofs.AtSites.{stands_below}
use Rattle.slice_model.proofs.Walking.{item_in}
use Rattle.slice_model.proofs.quiet.first_driving.Goals as goal

pub unnamed_fault-requires-clause-there : goal.unnamed_fault-requires-clause-there
unnamed_fault-requires-clause-there g c =
    stands_below (g.G.NamedGraph.graph c.args.graph.now) c.site-item.result (c.requires.at.each c.site-item.result (item_in c.args.sites.now c.loop-site.site-index c.site-item.result c.loop-site-test.true c.site-item.is))

pub loop-site-preserved : goal.loop-site-preserved
loop-site-preserved g c =
    first_passed (unnamed_fault (g.G.NamedGraph.graph c.args.graph.now) (bits c.args.image.now)) c.args.sites.now c.loop-site.site-index c.site-item.result c.loop-site-test.true c.site-item.is c.in_ok-unnamed_fault.ensures c.loop-site.invariant

pub returns-in_err-unnamed_fault : goal.returns-in_err-unnamed_fault
returns-in_err-unnamed_fault g c =
    let p = err_from_is_err_and c.from_residual.result c.from_residual.ensures.1 in
    rw (p.1, p.2)
    (first_found (unnamed_fault (g.G.NamedGraph.graph c.args.graph.now) (bits c.args.image.now)) c.args.sites.now c.loop-site.site-index c.site-item.result (fault_of c.in_err-unnamed_fault.field-0.0) c.loop-site-test.true c.site-item.is c.in_err-unnamed_fault.ensures
    c.loop-site.invariant)

pub returns : goal.returns
returns g c = first_end (unnamed_fault (g.G.NamedGraph.graph c.args.graph.now) (bits c.args.image.now)) c.args.sites.now c.loop-site.site-index c.loop-site-test.false c.loop-site.invariant
