use Rattle.std.proofs.Common.{◌≡◌, option_and_then, subst}
use Rattle.std.specs.Prelude.{slice_get}
use Rattle.fabric.specs.GraphOf.{number_in}
use Rattle.number_lists.specs.Routed.{Routed}
use Rattle.route_graph.proofs.routing.RouteGraphRoutingGraph.wire_named.Goals as goal

pub returns : goal.returns
returns c =
    subst (λ (x : Routed). c.wire_named.result ≡ option_and_then (λ tile. number_in x.numbers.wires x.device.profile.rules tile c.args.name.now) (slice_get x.device.grid.tiles c.args.t))
    c.self.view_is c.wire_named.ensures
