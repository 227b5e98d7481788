use Rattle.std.proofs.Common.{◌∙◌, ap}
use Rattle.links.specs.Links.{Link}
use Rattle.std.proofs.Common.{List}
use Rattle.graph_lists.specs.FixedLists.{links_into}
use Rattle.route_graph.proofs.Asked.{of_ends}
use Rattle.route_graph.proofs.routing.RouteGraphRoutingGraph.fixed_into.Goals as goal

pub sources-requires : goal.sources-requires
sources-requires c = (of_ends c.self.inside c.self.invariant c.args.self.now c.self.view_is).link_wires c.args.w c.requires

pub returns : goal.returns
returns c = c.sources.ensures ∙ ap (λ (ls : List Link). links_into ls c.args.w) (of_ends c.self.inside c.self.invariant c.args.self.now c.self.view_is).all_links
