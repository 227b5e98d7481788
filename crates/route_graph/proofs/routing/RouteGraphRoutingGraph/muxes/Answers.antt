use Rattle.std.proofs.Common.{◌∙◌}
use Rattle.std.proofs.Common.{arith}
use Rattle.route_graph.proofs.Asked.{of_muxes}
use Rattle.route_graph.proofs.routing.RouteGraphRoutingGraph.muxes.Goals as goal

pub overflow_cast-result : goal.overflow_cast-result
overflow_cast-result c = let few = (of_muxes c.self.inside c.self.invariant c.args.self.now c.self.view_is).few in let count = (of_muxes c.self.inside c.self.invariant c.args.self.now c.self.view_is).count in let l = c.len.ensures in omega arith

pub returns : goal.returns
returns c = c.len.ensures ∙ (of_muxes c.self.inside c.self.invariant c.args.self.now c.self.view_is).count
