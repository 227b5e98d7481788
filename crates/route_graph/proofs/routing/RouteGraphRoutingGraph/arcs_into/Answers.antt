use Rattle.std.proofs.Common.{◌∙◌}
use Rattle.route_graph.proofs.Asked.{of_arcs}
use Rattle.route_graph.proofs.routing.RouteGraphRoutingGraph.arcs_into.Goals as goal

pub ins-requires : goal.ins-requires
ins-requires c = (of_arcs c.self.inside c.self.invariant c.args.self.now c.self.view_is).wires c.args.w c.requires

pub returns : goal.returns
returns c = c.ins.ensures ∙ (of_arcs c.self.inside c.self.invariant c.args.self.now c.self.view_is).into c.args.w
