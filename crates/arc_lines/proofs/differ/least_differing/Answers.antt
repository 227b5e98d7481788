use Rattle.std.proofs.Common.{◌≡◌, Some, length, sym, ap, subst, ◌∙◌, arith}
use Rattle.chosen_links.proofs.Standing.{mux_below}
use Rattle.arc_lines.specs.Differing.{DiffersBelow, IsLeastMux}
use Rattle.arc_lines.proofs.Differing.{least_more}
use Rattle.arc_lines.proofs.differ.least_differing.Goals as goal

pub lower_if-least-requires-clause-m : goal.lower_if-least-requires-clause-m
lower_if-least-requires-clause-m g c = mux_below (g.G.RoutingGraph.device c.args.graph.now) (g.G.NamedGraph.graph c.args.graph.now) c.is_of_device.ensures c.from_u32-id.result _ (c.arc.ensures ∙ ap (λ n. Some n) (sym c.lower_if.view_is))

pub loop-a-preserved : goal.loop-a-preserved
loop-a-preserved g c = record {
  below = c.lower_if-least.ensures.below;
  least =
      least_more (g.G.NamedGraph.graph c.args.graph.now) c.args.chosen.now c.args.lined.now c.loop-a.a c.from_u32-id.result _ c.differs-differs.result c.loop-a.least c.lower_if-least.result
      c.from_u32-id.ensures (c.arc.ensures ∙ ap (λ n. Some n) (sym c.lower_if.view_is)) c.differs-differs.ensures c.lower_if-least.ensures.is c.loop-a.invariant.least;
}

pub returns : goal.returns
returns g c =
    let all : c.loop-a.a ≡ length (g.G.NamedGraph.graph c.args.graph.now).arcs = (let t = c.loop-a-test.false in let e = c.arcs-a-end.ensures in let u = c.loop-a.auto.a-end in omega arith) in
    subst (λ n. IsLeastMux (g.G.NamedGraph.graph c.args.graph.now) (DiffersBelow (g.G.NamedGraph.graph c.args.graph.now) c.args.chosen.now c.args.lined.now n) c.loop-a.least) all c.loop-a.invariant.least
