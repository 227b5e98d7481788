use Rattle.std.proofs.Common.{◌++◌, ℕ, List, flat_map, ap, ◌∙◌}
use Rattle.upset_effect.specs.Driven.{bit_sinks}
use Rattle.upset_effect.proofs.Sunk.{are_driven}
use Rattle.upset_effect.proofs.sinks.affected_sinks.Goals as goal

pub returns : goal.returns
returns g c =
    let graph = g.G.NamedGraph.graph c.args.graph.now in
    are_driven (g.G.RoutingGraph.device c.args.graph.now) graph c.is_of_device.ensures c.args.flips.now c.add_bits.new.sinks.items c.in_order.result.items
    (c.in_ok-add_bits.ensures ∙ ap (λ (zs : List ℕ). zs ++ flat_map (bit_sinks graph) c.args.flips.now) c.new-sinks.ensures.items) c.in_order.ensures
