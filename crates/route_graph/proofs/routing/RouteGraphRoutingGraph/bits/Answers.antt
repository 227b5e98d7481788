use Rattle.number_lists.specs.Routed.{graph_of}
use Rattle.row_laws.proofs.BitRows.{all_are}
use Rattle.route_graph.proofs.Asked.{mux_known, of_bits}
use Rattle.route_graph.proofs.routing.RouteGraphRoutingGraph.bits.Goals as goal

pub returns : goal.returns
returns c = all_are (graph_of c.args.self.now) c.self.inside.bits (of_bits c.self.inside c.self.invariant c.args.self.now c.self.view_is) (mux_known c.self.inside c.self.invariant c.args.self.now c.self.view_is) c.bits.result.now c.bits.ensures
