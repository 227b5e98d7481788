use Rattle.std.proofs.Common.{◌≡◌, ◌↔◌, true, sym, subst, ◌∙◌, arith}
use Rattle.std.proofs.lemmas.Bool.{false≢true}
use Rattle.patterns.specs.Bits.{bits_of_list}
use Rattle.fabric.specs.Graph.{Graph}
use Rattle.cram_image.specs.Image.{bits}
use Rattle.upset.specs.Configured.{Configured}
use Rattle.upset.specs.Effect.{IsShorted}
use Rattle.upset_effect.specs.Reach.{IsChanged, IsDriven, IsJoined}
use Rattle.upset_effect.proofs.Driving.{not_shorted, shorted_is}
use Rattle.upset_effect.proofs.Outcomes.{if_ok}
use Rattle.upset_effect.proofs.Sunk.{driven_below}
use Rattle.upset_effect.proofs.decided.is_shorted.Goals as goal

pub returns-then-to_u32-wires : goal.returns-then-to_u32-wires
returns-then-to_u32-wires g c =
    let graph = g.G.NamedGraph.graph c.graph-graph.result.now in
    let past = c.if-to_u32-wires.true in
    let count = c.wires.ensures in
    let number = c.to_u32.ensures in
    λ k of_graph of_image. not_shorted c.args.live.now.graph (bits_of_list c.args.flips.now) c.args.w (λ d.
    let below = driven_below (g.G.RoutingGraph.device c.graph-graph.result.now) graph c.is_of_device.ensures c.args.flips.now c.args.w
    (subst (λ (gr : Graph). IsDriven gr (bits_of_list c.args.flips.now) c.args.w) (sym c.graph-graph.ensures) d) in
    absurd (omega arith)) k of_graph

pub returns-then-not-is_driven : goal.returns-then-not-is_driven
returns-then-not-is_driven g c = λ k of_graph of_image.
    not_shorted c.args.live.now.graph (bits_of_list c.args.flips.now) c.args.w (λ d. false≢true (sym c.if-not-is_driven.true
    ∙ c.is_driven.ensures.1 (subst (λ (gr : Graph). IsDriven gr (bits_of_list c.args.flips.now) c.args.w) (sym c.graph-graph.ensures) d))) k of_graph

pub returns : goal.returns
returns g c =
    let graph = c.args.live.now.graph in
    let image = bits c.args.live.now.image in
    let flips = bits_of_list c.args.flips.now in
    let w = c.args.w in
    let driven : IsDriven graph flips w = subst (λ (gr : Graph). IsDriven gr flips w) c.graph-graph.ensures (c.is_driven.ensures.0 c.if-not-is_driven.false) in
    if_ok c.is_shorted_there.result (λ b. (b ≡ true) ↔ (IsChanged graph image flips w × IsJoined graph image flips w))
    (λ b. (k : Configured) → k.graph ≡ graph → k.image ≡ image → (b ≡ true) ↔ IsShorted k flips w)
    (λ b t. shorted_is graph image flips w b driven t) c.is_shorted_there.ensures
