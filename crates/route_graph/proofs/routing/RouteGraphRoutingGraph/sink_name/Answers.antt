use Rattle.fabric.specs.Graph.{GraphMux}
use Rattle.number_lists.specs.Routed.{graph_of}
use Rattle.route_graph.proofs.Asked.{muxes_known}
use Rattle.route_graph.proofs.Lent.{lent_is, lent_there}
use Rattle.route_graph.proofs.routing.RouteGraphRoutingGraph.sink_name.Goals as goal

pub unwrap-requires : goal.unwrap-requires
unwrap-requires c =
    lent_there (λ (x : GraphMux). x.mux.sink) (graph_of c.args.self.now).muxes c.args.m c.requires c.sink_name-name.result
    (c.sink_name-name.ensures (graph_of c.args.self.now) (muxes_known c.self.inside c.self.invariant c.args.self.now c.self.view_is c.muxes.result.now c.muxes.ensures))

pub returns : goal.returns
returns c =
    lent_is (λ (x : GraphMux). x.mux.sink) (graph_of c.args.self.now).muxes c.args.m c.sink_name-name.result c.unwrap.result c.unwrap.ensures
    (c.sink_name-name.ensures (graph_of c.args.self.now) (muxes_known c.self.inside c.self.invariant c.args.self.now c.self.view_is c.muxes.result.now c.muxes.ensures))
