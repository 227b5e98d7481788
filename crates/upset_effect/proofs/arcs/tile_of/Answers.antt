use Rattle.std.proofs.Common.{Some, sym, ap, ◌∙◌}
use Rattle.chosen_links.proofs.Standing.{mux_below, origin_is, tile_below}
use Rattle.upset_effect.proofs.arcs.tile_of.Goals as goal

pub tile_of-requires : goal.tile_of-requires
tile_of-requires g c = mux_below (g.G.RoutingGraph.device c.args.graph.now) (g.G.NamedGraph.graph c.args.graph.now) c.is_of_device.ensures c.args.a _ (c.arc.ensures ∙ ap (λ n. Some n) (sym c.tile_of.view_is))

pub tile-requires : goal.tile-requires
tile-requires g c = tile_below (g.G.RoutingGraph.device c.args.graph.now) (g.G.NamedGraph.graph c.args.graph.now) c.is_of_device.ensures c.tile_of.inside.mux c.tile_of-2.result c.tile_of-2.ensures

pub returns : goal.returns
returns g c =
    origin_is (g.G.RoutingGraph.device c.args.graph.now) (g.G.NamedGraph.graph c.args.graph.now) c.is_of_device.ensures c.args.a _ c.tile_of-2.result c.tile.result.now (c.arc.ensures ∙ ap (λ n. Some n) (sym c.tile_of.view_is)) c.tile_of-2.ensures c.tile.ensures
