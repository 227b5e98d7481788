use Rattle.std.proofs.Common.{◌∙◌}
use Rattle.route_graph.proofs.Asked.{of_ends}
use Rattle.route_graph.proofs.routing.RouteGraphRoutingGraph.fixed.Goals as goal

pub returns : goal.returns
returns c = c.links.ensures ∙ (of_ends c.self.inside c.self.invariant c.args.self.now c.self.view_is).all_links
