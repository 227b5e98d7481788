use Rattle.std.proofs.Common.{◌≡◌, ◌++◌, List, ℕ, drop}
use Rattle.std.specs.Prelude.{filter_map, option_map}
use Rattle.records.specs.Profile.{SliceKind}
use Rattle.records.specs.Side.{Placed}
use Rattle.cells.specs.Faults.{site_fault}
use Rattle.cells.specs.Sites.{Site, slice_site}
use Rattle.cell_readings.specs.First.{first_of}
use Rattle.slice_model.proofs.standing.slices_at_sites.Given as goal
use denote.Ref.{Bor}

-- the cells so far have a site, and those that are left make up all
abbrev pub invariant-loop-cell : goal.invariant-loop-cell
invariant-loop-cell g l = record {
  passed : first_of (λ (p : Bor Placed). site_fault p.now.name (slice_site (g.G.NamedGraph.graph l.graph) l.kinds p.now)) (drop l.cell-index l.cells) ≡ first_of (λ (p : Bor Placed). site_fault p.now.name (slice_site (g.G.NamedGraph.graph l.graph) l.kinds p.now)) l.cells;
  found : l.found.items ++ filter_map (λ (p : Bor Placed). option_map (λ (s : Site SliceKind). (p.now, s)) (slice_site (g.G.NamedGraph.graph l.graph) l.kinds p.now)) (drop l.cell-index l.cells) ≡ filter_map (λ (p : Bor Placed). option_map (λ (s : Site SliceKind). (p.now, s)) (slice_site (g.G.NamedGraph.graph l.graph) l.kinds p.now)) l.cells;
}
