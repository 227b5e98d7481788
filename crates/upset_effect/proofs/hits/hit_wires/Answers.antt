use Rattle.std.proofs.Common.{◌<◌, length, subst, sym}
use Rattle.words.specs.Members.{In}
use Rattle.patterns.specs.Bits.{bits_of_list}
use Rattle.fabric.specs.Graph.{Graph}
use Rattle.cram_image.specs.Image.{bits}
use Rattle.upset_effect.specs.Reach.{AreThose, IsChanged, IsDriven, IsHitIn}
use Rattle.upset_effect.proofs.Kept.{kept_of}
use Rattle.upset_effect.proofs.Outcomes.{if_ok}
use Rattle.upset_effect.proofs.Sunk.{driven_below}
use Rattle.upset_effect.proofs.hits.hit_wires.Goals as goal

pub changed-requires : goal.changed-requires
changed-requires g c =
    let flips = bits_of_list c.args.flips.now in
    let sinks : AreThose (IsDriven (g.G.NamedGraph.graph c.graph-graph.result.now) flips) c.deref.result.now =
    subst (AreThose (IsDriven (g.G.NamedGraph.graph c.graph-graph.result.now) flips)) (sym c.deref.ensures.value) c.in_ok-sinks.ensures in
    record {
      within = λ w i. subst (λ (graph : Graph). w < length graph.wires) c.graph-graph.ensures
          (driven_below (g.G.RoutingGraph.device c.graph-graph.result.now) (g.G.NamedGraph.graph c.graph-graph.result.now) c.is_of_device.ensures c.args.flips.now w ((sinks.members w).0 i));
      rising = sinks.rising;
    }

pub returns : goal.returns
returns g c =
    let graph = c.args.live.now.graph in
    let image = bits c.args.live.now.image in
    let flips = bits_of_list c.args.flips.now in
    let sinks : AreThose (IsDriven graph flips) c.deref.result.now =
    subst (λ (g : Graph). AreThose (IsDriven g flips) c.deref.result.now) c.graph-graph.ensures
    (subst (AreThose (IsDriven (g.G.NamedGraph.graph c.graph-graph.result.now) flips)) (sym c.deref.ensures.value) c.in_ok-sinks.ensures) in
    if_ok c.changed.result (λ v. AreThose (λ w. In c.deref.result.now w × IsChanged graph image flips w) v.items) (λ v. AreThose (IsHitIn graph image flips) v.items)
    (λ v k. kept_of (IsDriven graph flips) (IsChanged graph image flips) c.deref.result.now v.items sinks k) c.changed.ensures
