use Rattle.std.proofs.Common.{map, sym, ◌∙◌}
use Rattle.std.specs.Prelude.{filter_map, option_map}
use Rattle.records.specs.Profile.{PadKind}
use Rattle.records.specs.Side.{Placed}
use Rattle.cells.specs.Faults.{site_fault}
use Rattle.cells.specs.Sites.{Site, pad_site}
use Rattle.slice_model.specs.Standing.{standing}
use Rattle.slice_model.proofs.Walking.{kept_all, filter_mapped}
use Rattle.slice_model.proofs.Ending.{ends_found}
use Rattle.slice_model.proofs.standing.pads_at_sites.Goals as goal
use denote.Ref.{Bor}

pub returns : goal.returns
returns g c =
    ends_found (λ (p : Bor Placed). site_fault p.now.name (pad_site (g.G.NamedGraph.graph c.args.graph.now) c.args.kinds.now p.now)) c.args.cells.now c.loop-cell.cell-index (standing (pad_site (g.G.NamedGraph.graph c.args.graph.now) c.args.kinds.now) (map (λ (p : Bor Placed). p.now) c.args.cells.now)) c.loop-cell.found.items c.loop-cell-test.false c.loop-cell.invariant.passed
    (kept_all (λ (p : Bor Placed). option_map (λ (s : Site PadKind). (p.now, s)) (pad_site (g.G.NamedGraph.graph c.args.graph.now) c.args.kinds.now p.now)) c.args.cells.now c.loop-cell.cell-index c.loop-cell.found.items (filter_map (λ (p : Bor Placed). option_map (λ (s : Site PadKind). (p.now, s)) (pad_site (g.G.NamedGraph.graph c.args.graph.now) c.args.kinds.now p.now)) c.args.cells.now) c.loop-cell-test.false c.loop-cell.invariant.found
    ∙ sym (filter_mapped (λ (p : Placed). option_map (λ (s : Site PadKind). (p, s)) (pad_site (g.G.NamedGraph.graph c.args.graph.now) c.args.kinds.now p)) (λ (p : Bor Placed). p.now) c.args.cells.now))
