use Rattle.std.proofs.Common.{◌<◌, sym, subst}
use Rattle.route_graph.proofs.Asked.{of_bits}
use Rattle.route_graph.proofs.routing.RouteGraphRoutingGraph.bits_of.Goals as goal

pub bits_of-requires : goal.bits_of-requires
bits_of-requires c = subst (λ n. c.args.m < n) (sym (of_bits c.self.inside c.self.invariant c.args.self.now c.self.view_is).each) c.requires

pub returns : goal.returns
returns c = (of_bits c.self.inside c.self.invariant c.args.self.now c.self.view_is).bits c.args.m c.bits_of.result.now (sym c.bits_of.ensures)
