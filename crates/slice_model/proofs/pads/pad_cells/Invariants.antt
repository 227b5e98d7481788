use Rattle.std.proofs.Common.{◌≡◌, ◌++◌, drop, map}
use Rattle.records.specs.Profile.{PadKind}
use Rattle.records.specs.Side.{Placed}
use Rattle.cells.specs.Resolved.{pad_cell}
use Rattle.cells.specs.Sites.{Site}
use Rattle.slice_model.proofs.pads.pad_cells.Given as goal

-- the pads so far and those that are left are all
abbrev pub invariant-loop-pad : goal.invariant-loop-pad
invariant-loop-pad g l = l.cells.items ++ map (λ (q : Placed × Site PadKind). pad_cell (g.G.NamedGraph.graph l.graph) (g.G.RoutingGraph.device l.graph).profile.rules l.names q.0 q.1) (drop l.pad-index l.pads) ≡ map (λ (q : Placed × Site PadKind). pad_cell (g.G.NamedGraph.graph l.graph) (g.G.RoutingGraph.device l.graph).profile.rules l.names q.0 q.1) l.pads
