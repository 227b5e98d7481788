use Rattle.std.proofs.Common.{refl, ◌==◌}
use Rattle.std.specs.Prelude.{◌&&◌}
use Rattle.std.specs.Str.{bytes_eq}
use Rattle.fabric.specs.Graph.{GraphMux}
use Rattle.number_lists.specs.Routed.{graph_of}
use Rattle.route_graph.proofs.Asked.{muxes_known, of_muxes}
use Rattle.route_graph.proofs.Lent.{found_below}
use Rattle.route_graph.proofs.naming.RouteGraphNamedGraph.mux_named.Goals as goal

pub mux_named-requires : goal.mux_named-requires
mux_named-requires c = λ k. ((refl, tt), (of_muxes c.self.inside c.self.invariant c.args.self.now c.self.view_is).tiles c.args.t c.requires)

pub returns-clause-named : goal.returns-clause-named
returns-clause-named c = c.mux_named.ensures (graph_of c.args.self.now) (muxes_known c.self.inside c.self.invariant c.args.self.now c.self.view_is c.self.inside.rows.muxes.muxes refl)

pub returns-clause-there : goal.returns-clause-there
returns-clause-there c =
    found_below (λ (m : GraphMux). (m.tile == c.args.t) && bytes_eq m.mux.sink c.args.sink.now) (graph_of c.args.self.now).muxes c.mux_named.result
    (c.mux_named.ensures (graph_of c.args.self.now) (muxes_known c.self.inside c.self.invariant c.args.self.now c.self.view_is c.self.inside.rows.muxes.muxes refl))
