use Rattle.std.proofs.Common.{arith, length, ap}
use Rattle.number_lists.specs.Routed.{graph_of}
use Rattle.route_graph.proofs.Asked.{known, of_arcs}
use Rattle.route_graph.proofs.naming.RouteGraphArcNames.arc_named.Goals as goal

pub arc_named-requires : goal.arc_named-requires
arc_named-requires c = let few = (of_arcs c.self.inside c.self.invariant c.args.self.now c.self.view_is).few in let count = (of_arcs c.self.inside c.self.invariant c.args.self.now c.self.view_is).count in let e = ap length c.arcs.ensures in omega arith

pub returns : goal.returns
returns c = c.arc_named.ensures (graph_of c.args.self.now) (known c.self.inside c.self.invariant c.args.self.now c.self.view_is c.muxes.result.now c.arcs.result.now c.muxes.ensures c.arcs.ensures)
