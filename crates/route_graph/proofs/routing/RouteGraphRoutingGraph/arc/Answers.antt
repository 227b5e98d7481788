use Rattle.route_graph.proofs.Asked.{of_arcs}
use Rattle.route_graph.proofs.routing.RouteGraphRoutingGraph.arc.Goals as goal

pub arc-requires : goal.arc-requires
arc-requires c = (of_arcs c.self.inside c.self.invariant c.args.self.now c.self.view_is).numbered c.args.a c.requires

pub returns : goal.returns
returns c = (of_arcs c.self.inside c.self.invariant c.args.self.now c.self.view_is).numbers c.args.a c.arc.result c.arc.ensures
