use Rattle.std.proofs.Common.{map, sym, ◌∙◌}
use Rattle.std.specs.Prelude.{filter_map, option_map}
use Rattle.records.specs.Profile.{SliceKind}
use Rattle.records.specs.Side.{Placed}
use Rattle.cells.specs.Faults.{site_fault}
use Rattle.cells.specs.Sites.{Site, slice_site}
use Rattle.slice_model.specs.Standing.{standing}
use Rattle.slice_model.proofs.Walking.{kept_all, filter_mapped}
use Rattle.slice_model.proofs.Ending.{ends_found}
use Rattle.slice_model.proofs.standing.slices_at_sites.Goals as goal
use denote.Ref.{Bor}

pub returns : goal.returns
returns g c =
    ends_found (λ (p : Bor Placed). site_fault p.now.name (slice_site (g.G.NamedGraph.graph c.args.graph.now) c.args.kinds.now p.now)) c.args.cells.now c.loop-cell.cell-index (standing (slice_site (g.G.NamedGraph.graph c.args.graph.now) c.args.kinds.now) (map (λ (p : Bor Placed). p.now) c.args.cells.now)) c.loop-cell.found.items c.loop-cell-test.false c.loop-cell.invariant.passed
    (kept_all (λ (p : Bor Placed). option_map (λ (s : Site SliceKind). (p.now, s)) (slice_site (g.G.NamedGraph.graph c.args.graph.now) c.args.kinds.now p.now)) c.args.cells.now c.loop-cell.cell-index c.loop-cell.found.items (filter_map (λ (p : Bor Placed). option_map (λ (s : Site SliceKind). (p.now, s)) (slice_site (g.G.NamedGraph.graph c.args.graph.now) c.args.kinds.now p.now)) c.args.cells.now) c.loop-cell-test.false c.loop-cell.invariant.found
    ∙ sym (filter_mapped (λ (p : Placed). option_map (λ (s : Site SliceKind). (p, s)) (slice_site (g.G.NamedGraph.graph c.args.graph.now) c.args.kinds.now p)) (λ (p : Bor Placed). p.now) c.args.cells.now))
