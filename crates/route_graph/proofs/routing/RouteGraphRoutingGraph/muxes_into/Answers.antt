use Rattle.std.proofs.Common.{◌∙◌}
use Rattle.route_graph.proofs.Asked.{of_muxes}
use Rattle.route_graph.proofs.routing.RouteGraphRoutingGraph.muxes_into.Goals as goal

pub of_sink-requires : goal.of_sink-requires
of_sink-requires c = (of_muxes c.self.inside c.self.invariant c.args.self.now c.self.view_is).wires c.args.w c.requires

pub returns : goal.returns
returns c = c.of_sink.ensures ∙ (of_muxes c.self.inside c.self.invariant c.args.self.now c.self.view_is).into c.args.w
