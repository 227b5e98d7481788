use Rattle.std.proofs.Common.{◌<◌, ◌∙◌, ap, length, subst}
use Rattle.std.specs.Prelude.{IfSome, position}
use Rattle.std.specs.Str.{bytes_eq}
use Rattle.fabric.specs.Device.{Device}
use Rattle.route_graph.proofs.Asked.{device_is}
use Rattle.route_graph.proofs.naming.RouteGraphNamedGraph.tile_named.Goals as goal

pub returns-clause-named : goal.returns-clause-named
returns-clause-named c = c.tile_named.ensures.named ∙ ap (λ (d : Device). position (λ t. bytes_eq t.name c.args.name.now) d.grid.tiles) (device_is c.self.inside c.self.invariant c.args.self.now c.self.view_is)

pub returns-clause-there : goal.returns-clause-there
returns-clause-there c = subst (λ (d : Device). IfSome c.tile_named.result (λ t. t < length d.grid.tiles)) (device_is c.self.inside c.self.invariant c.args.self.now c.self.view_is) c.tile_named.ensures.there
