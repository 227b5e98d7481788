use Rattle.std.proofs.Common.{◌∙◌}
use Rattle.route_graph.proofs.Asked.{of_arcs}
use Rattle.route_graph.proofs.routing.RouteGraphRoutingGraph.arcs_of.Goals as goal

pub of_mux-requires : goal.of_mux-requires
of_mux-requires c = (of_arcs c.self.inside c.self.invariant c.args.self.now c.self.view_is).muxes c.args.m c.requires

pub returns : goal.returns
returns c = c.of_mux.ensures ∙ (of_arcs c.self.inside c.self.invariant c.args.self.now c.self.view_is).of_mux c.args.m
