use Rattle.route_graph.proofs.Asked.{of_device, of_numbers}
use Rattle.route_graph.proofs.graph.RouteGraph.device.Goals as goal

pub returns-clause-numbers : goal.returns-clause-numbers
returns-clause-numbers c = of_numbers c.self.inside c.self.invariant c.args.self.now c.self.view_is

pub returns-clause-graph : goal.returns-clause-graph
returns-clause-graph c = of_device c.self.inside c.self.invariant c.args.self.now c.self.view_is
