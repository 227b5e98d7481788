use Rattle.std.proofs.Common.{map, ap, subst, ◌∙◌}
use Rattle.words.specs.OrMemory.{OrMemory}
use Rattle.words.specs.Ordered.{in_order}
use Rattle.records.specs.Side.{Placed, Side}
use Rattle.cells.specs.Faults.{site_fault}
use Rattle.cells.specs.Readings.{pads_of}
use Rattle.cells.specs.Sites.{pad_site}
use Rattle.cell_readings.specs.Errors.{fault_of}
use Rattle.slice_model.proofs.Ending.{ordered_is}
use Rattle.slice_model.proofs.whole.placed_pads.Goals as goal
use denote.Ref.{Bor}

pub returns : goal.returns
returns g c =
    subst (OrMemory (λ found. found.items) fault_of c.pads_at_sites.result)
    (ordered_is (pad_site (g.G.NamedGraph.graph c.args.graph.now) c.args.kinds.now) c.as_slice-2.result.now (pads_of c.args.side.now)
    (ap (map (λ (p : Bor Placed). p.now)) c.as_slice-2.ensures.value ∙ (c.in_ok-ordered.ensures ∙ (ap (in_order (λ (p : Placed). p.name)) c.as_slice.ensures ∙ ap (λ (s : Side). pads_of s) c.side.view_is))))
    c.pads_at_sites.ensures
