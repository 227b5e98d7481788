use Rattle.std.proofs.Common.{subst}
use Rattle.records.specs.Limits as limits
use Rattle.route_graph.specs.Why.{IsWhy}
use Rattle.harden_core.proofs.Graphless.{size_refuses}
use Rattle.harden_core.proofs.graphs.graph_refused.Goals as goal

pub returns-in-Wires : goal.returns-in-Wires
returns-in-Wires c = λ design g is why.
    size_refuses design g is limits.Wires c.size_refused.result (subst (IsWhy design.device) c.in-Wires.is why) c.size_refused.ensures

pub returns-in-Muxes : goal.returns-in-Muxes
returns-in-Muxes c = λ design g is why.
    size_refuses design g is limits.Muxes c.size_refused-in-Muxes.result (subst (IsWhy design.device) c.in-Muxes.is why) c.size_refused-in-Muxes.ensures

pub returns-in-Arcs : goal.returns-in-Arcs
returns-in-Arcs c = λ design g is why.
    size_refuses design g is limits.Arcs c.size_refused-in-Arcs.result (subst (IsWhy design.device) c.in-Arcs.is why) c.size_refused-in-Arcs.ensures
