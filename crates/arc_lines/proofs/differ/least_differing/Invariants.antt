use Rattle.std.proofs.Common.{◌<◌, length}
use Rattle.std.specs.Prelude.{IfSome}
use Rattle.arc_lines.specs.Differing.{DiffersBelow, IsLeastMux}
use Rattle.arc_lines.proofs.differ.least_differing.Given as goal

-- the least mux of the arcs so far
abbrev pub invariant-loop-a : goal.invariant-loop-a
invariant-loop-a g l = record {
  below : IfSome l.least (λ k. k < length (g.G.NamedGraph.graph l.graph).muxes);
  least : IsLeastMux (g.G.NamedGraph.graph l.graph) (DiffersBelow (g.G.NamedGraph.graph l.graph) l.chosen l.lined l.a) l.least;
}
