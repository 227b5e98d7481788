use Rattle.fabric.specs.Graph.{GraphArc}
use Rattle.number_lists.specs.Routed.{graph_of}
use Rattle.route_graph.proofs.Asked.{known}
use Rattle.route_graph.proofs.Lent.{lent_is, lent_there}
use Rattle.route_graph.proofs.routing.RouteGraphRoutingGraph.source_name.Goals as goal

pub unwrap-requires : goal.unwrap-requires
unwrap-requires c =
    lent_there (λ (x : GraphArc). x.arc.source) (graph_of c.args.self.now).arcs c.args.a c.requires c.source_name-name.result
    (c.source_name-name.ensures (graph_of c.args.self.now) (known c.self.inside c.self.invariant c.args.self.now c.self.view_is c.muxes.result.now c.arcs.result.now c.muxes.ensures c.arcs.ensures))

pub returns : goal.returns
returns c =
    lent_is (λ (x : GraphArc). x.arc.source) (graph_of c.args.self.now).arcs c.args.a c.source_name-name.result c.unwrap.result c.unwrap.ensures
    (c.source_name-name.ensures (graph_of c.args.self.now) (known c.self.inside c.self.invariant c.args.self.now c.self.view_is c.muxes.result.now c.arcs.result.now c.muxes.ensures c.arcs.ensures))
