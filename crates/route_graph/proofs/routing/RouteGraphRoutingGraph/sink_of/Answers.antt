use Rattle.std.proofs.Common.{◌∙◌, Some, ap, sym}
use Rattle.mux_rows.specs.MuxTable.{MuxNumbers}
use Rattle.route_graph.proofs.Asked.{of_muxes}
use Rattle.route_graph.proofs.routing.RouteGraphRoutingGraph.sink_of.Goals as goal

pub mux-mux-requires : goal.mux-mux-requires
mux-mux-requires c = (of_muxes c.self.inside c.self.invariant c.args.self.now c.self.view_is).numbered c.args.m c.requires

pub returns : goal.returns
returns c = (of_muxes c.self.inside c.self.invariant c.args.self.now c.self.view_is).sink c.args.m c.mux-mux.result c.mux-mux.ensures ∙ ap (λ (m : MuxNumbers). Some m.sink) (sym c.mux.view_is)
