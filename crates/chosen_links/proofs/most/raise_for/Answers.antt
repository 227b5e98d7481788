use Rattle.std.proofs.Common.{Some, sym, ap, ◌∙◌, arith}
use Rattle.chosen_links.proofs.Standing.{mux_below}
use Rattle.chosen_links.proofs.most.raise_for.Goals as goal

pub raise-requires : goal.raise-requires
raise-requires g c =
    let below = mux_below (g.G.RoutingGraph.device c.args.graph.now) (g.G.NamedGraph.graph c.args.graph.now) c.is_of_device.ensures c.args.a _ (c.arc.ensures ∙ ap (λ n. Some n) (sym c.raise.view_is)) in
    let long = c.requires.long in omega arith
