use Rattle.std.proofs.Common.{◌∙◌, ap}
use Rattle.links.specs.Links.{Link}
use Rattle.std.proofs.Common.{List}
use Rattle.graph_lists.specs.FixedLists.{links_from}
use Rattle.route_graph.proofs.Asked.{of_ends}
use Rattle.route_graph.proofs.routing.RouteGraphRoutingGraph.fixed_from.Goals as goal

pub sinks-requires : goal.sinks-requires
sinks-requires c = (of_ends c.self.inside c.self.invariant c.args.self.now c.self.view_is).link_wires c.args.w c.requires

pub returns : goal.returns
returns c = c.sinks.ensures ∙ ap (λ (ls : List Link). links_from ls c.args.w) (of_ends c.self.inside c.self.invariant c.args.self.now c.self.view_is).all_links
