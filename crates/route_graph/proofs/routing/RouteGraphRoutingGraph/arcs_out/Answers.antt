use Rattle.std.proofs.Common.{◌∙◌}
use Rattle.route_graph.proofs.Asked.{of_arcs}
use Rattle.route_graph.proofs.routing.RouteGraphRoutingGraph.arcs_out.Goals as goal

pub outs-requires : goal.outs-requires
outs-requires c = (of_arcs c.self.inside c.self.invariant c.args.self.now c.self.view_is).wires c.args.w c.requires

pub returns : goal.returns
returns c = c.outs.ensures ∙ (of_arcs c.self.inside c.self.invariant c.args.self.now c.self.view_is).out c.args.w
