use Rattle.std.proofs.Common.{refl}
use Rattle.number_lists.specs.Routed.{graph_of}
use Rattle.route_graph.proofs.Asked.{muxes_known}
use Rattle.route_graph.proofs.naming.RouteGraphNamedGraph.option_named.Goals as goal

pub returns : goal.returns
returns c = c.option_named.ensures (graph_of c.args.self.now) (muxes_known c.self.inside c.self.invariant c.args.self.now c.self.view_is c.self.inside.rows.muxes.muxes refl).is
