use Rattle.std.proofs.Common.{◌≡◌, ◌++◌, drop, map}
use Rattle.records.specs.Profile.{SliceKind}
use Rattle.records.specs.Side.{Placed}
use Rattle.cells.specs.Resolved.{slice_cell}
use Rattle.cells.specs.Sites.{Site}
use Rattle.cram_image.specs.Image.{bits}
use Rattle.slice_model.proofs.slices.slice_cells.Given as goal

-- the slices so far and those that are left are all
abbrev pub invariant-loop-slice : goal.invariant-loop-slice
invariant-loop-slice g l = l.cells.items ++ map (λ (q : Placed × Site SliceKind). slice_cell (g.G.NamedGraph.graph l.graph) (g.G.RoutingGraph.device l.graph).profile.rules (bits l.image) q.0 q.1) (drop l.slice-index l.slices) ≡ map (λ (q : Placed × Site SliceKind). slice_cell (g.G.NamedGraph.graph l.graph) (g.G.RoutingGraph.device l.graph).profile.rules (bits l.image) q.0 q.1) l.slices
