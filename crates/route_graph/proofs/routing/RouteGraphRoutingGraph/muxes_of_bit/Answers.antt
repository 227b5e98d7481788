use Rattle.std.proofs.Common.{◌∙◌}
use Rattle.number_lists.specs.Routed.{graph_of}
use Rattle.row_laws.proofs.BitRows.{muxes_are}
use Rattle.route_graph.proofs.Asked.{of_bits}
use Rattle.route_graph.proofs.routing.RouteGraphRoutingGraph.muxes_of_bit.Goals as goal

pub returns : goal.returns
returns c = c.muxes_of_bit.ensures ∙ muxes_are (graph_of c.args.self.now) c.self.inside.bits (of_bits c.self.inside c.self.invariant c.args.self.now c.self.view_is) c.args.b
