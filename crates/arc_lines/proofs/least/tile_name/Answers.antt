use Rattle.chosen_links.proofs.Standing.{tile_below}
use Rattle.arc_lines.proofs.least.tile_name.Goals as goal

pub tile-tile-requires : goal.tile-tile-requires
tile-tile-requires g c = tile_below (g.G.RoutingGraph.device c.args.graph.now) (g.G.NamedGraph.graph c.args.graph.now) c.is_of_device.ensures c.args.m c.tile_of.result c.tile_of.ensures
