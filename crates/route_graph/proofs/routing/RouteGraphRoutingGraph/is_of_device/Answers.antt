use Rattle.route_graph.proofs.Asked.{of_device}
use Rattle.route_graph.proofs.routing.RouteGraphRoutingGraph.is_of_device.Goals as goal

pub returns : goal.returns
returns c = of_device c.self.inside c.self.invariant c.args.self.now c.self.view_is
