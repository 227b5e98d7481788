use Rattle.std.proofs.Common.{ap, subst, ◌∙◌}
use Rattle.fabric.specs.Device.{Device}
use Rattle.fabric.specs.GraphOf.{IsGraph}
use Rattle.number_lists.specs.Routed.{Routed, graph_of}
use Rattle.size_laws.specs.Sizes.{IsSmall, OverlapsNowhere}
use Rattle.route_graph.proofs.Built.{graph_made, is_routed}
use Rattle.route_graph.proofs.made.build.Goals as goal

pub of_parts-requires : goal.of_parts-requires
of_parts-requires c = is_routed c.in_ok-numbers.numbers.device c.in_ok-numbers.numbers.wires c.in_ok-rows.rows.muxes c.in_ok-rows.rows.arcs c.in_ok-ends.ends.fixed c.in_ok-ends.ends.outputs c.in_ok-rows.ensures.rows c.in_ok-ends.ensures.ends

pub returns-clause-device : goal.returns-clause-device
returns-clause-device c = ap (λ (x : Routed). x.device) c.in_ok-graph.ensures ∙ c.in_ok-numbers.ensures.device

pub returns-clause-graph : goal.returns-clause-graph
returns-clause-graph c =
    subst (λ (d : Device). IsGraph d (graph_of c.in_ok-graph.graph)) c.in_ok-numbers.ensures.device
    (graph_made c.in_ok-numbers.numbers.device c.in_ok-numbers.numbers.wires c.in_ok-rows.rows.muxes c.in_ok-rows.rows.arcs c.in_ok-ends.ends.fixed c.in_ok-ends.ends.outputs
    (is_routed c.in_ok-numbers.numbers.device c.in_ok-numbers.numbers.wires c.in_ok-rows.rows.muxes c.in_ok-rows.rows.arcs c.in_ok-ends.ends.fixed c.in_ok-ends.ends.outputs c.in_ok-rows.ensures.rows c.in_ok-ends.ensures.ends) c.in_ok-graph.graph c.in_ok-graph.ensures)

pub returns-clause-small : goal.returns-clause-small
returns-clause-small c = subst (λ (d : Device). IsSmall d) c.in_ok-numbers.ensures.device c.in_ok-rows.ensures.small

pub returns-clause-apart : goal.returns-clause-apart
returns-clause-apart c = subst (λ (d : Device). OverlapsNowhere d) c.in_ok-numbers.ensures.device c.in_ok-ends.ensures.apart
