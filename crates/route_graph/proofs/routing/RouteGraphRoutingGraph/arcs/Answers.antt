use Rattle.std.proofs.Common.{List, ◌∙◌, ap, arith, length}
use Rattle.graph_lists.specs.ArcLists.{ArcNumbers}
use Rattle.route_graph.proofs.Asked.{of_arcs}
use Rattle.route_graph.proofs.routing.RouteGraphRoutingGraph.arcs.Goals as goal

pub overflow_cast-result : goal.overflow_cast-result
overflow_cast-result c =
    let few = (of_arcs c.self.inside c.self.invariant c.args.self.now c.self.view_is).few in
    let count = (of_arcs c.self.inside c.self.invariant c.args.self.now c.self.view_is).count in
    let e = ap (λ (xs : List ArcNumbers). length xs) c.arcs.ensures in
    omega arith

pub returns : goal.returns
returns c =
    ap (λ (xs : List ArcNumbers). length xs) c.arcs.ensures
    ∙ (of_arcs c.self.inside c.self.invariant c.args.self.now c.self.view_is).count
