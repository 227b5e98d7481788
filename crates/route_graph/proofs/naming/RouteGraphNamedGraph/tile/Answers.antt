use Rattle.std.proofs.Common.{◌∙◌, ap}
use Rattle.std.specs.Prelude.{slice_get}
use Rattle.fabric.specs.Device.{Device}
use Rattle.route_graph.proofs.Asked.{device_is}
use Rattle.route_graph.proofs.Lent.{copied_is, copied_there}
use Rattle.route_graph.proofs.naming.RouteGraphNamedGraph.tile.Goals as goal

pub unwrap-requires : goal.unwrap-requires
unwrap-requires c = copied_there c.args.self.now.device.grid.tiles c.args.t c.requires c.tile-tile.result (c.tile-tile.ensures ∙ ap (λ (d : Device). slice_get d.grid.tiles c.args.t) (device_is c.self.inside c.self.invariant c.args.self.now c.self.view_is))

pub returns : goal.returns
returns c = copied_is c.args.self.now.device.grid.tiles c.args.t c.tile-tile.result c.unwrap.result c.unwrap.ensures (c.tile-tile.ensures ∙ ap (λ (d : Device). slice_get d.grid.tiles c.args.t) (device_is c.self.inside c.self.invariant c.args.self.now c.self.view_is))
