use Rattle.std.proofs.Common.{ℕ, ◌<◌, Bool, List, length, sym, subst, ◌∙◌}
use Rattle.arc_lines.specs.Differing.{DiffersBelow, IsLeastMux}
use Rattle.arc_lines.proofs.Differing.{answered}
use Rattle.arc_lines.proofs.Lined.{marks_are}
use Rattle.arc_lines.proofs.differ.arcs_differ.Goals as goal

pub returns : goal.returns
returns g c = λ image chosen_are.
    answered (g.G.RoutingGraph.device c.args.graph.now) (g.G.NamedGraph.graph c.args.graph.now) c.is_of_device.ensures image c.args.config.now c.args.chosen.now c.in_ok-lined.lined.items chosen_are
    (marks_are (g.G.NamedGraph.graph c.args.graph.now) (g.G.RoutingGraph.device c.args.graph.now) c.is_of_device.ensures c.args.config.now c.deref.result.now c.in_ok-lined.lined.items
    (c.deref.ensures.value ∙ c.in_ok-lines.ensures)
    (λ k below. c.in_ok-lined.ensures.marks k (subst (λ n. k < n) (sym c.arcs.ensures) below)))
    c.least_differing.result
    (subst (λ (bs : List Bool). IsLeastMux (g.G.NamedGraph.graph c.args.graph.now) (DiffersBelow (g.G.NamedGraph.graph c.args.graph.now) c.args.chosen.now bs (length (g.G.NamedGraph.graph c.args.graph.now).arcs)) c.least_differing.result)
    c.deref-2.ensures.value c.least_differing.ensures)
