use Rattle.std.proofs.Common.{ℕ, List, subst, arith}
use Rattle.words.specs.Members.{In}
use Rattle.patterns.specs.Bits.{bits_of_list}
use Rattle.net_links.proofs.Listed.{met}
use Rattle.fabric.specs.GraphOf.{IsGraph}
use Rattle.cram_image.specs.Image.{bits}
use Rattle.upset_effect.specs.Reach.{IsAfter, IsHitIn, IsJoined}
use Rattle.upset_effect.proofs.Joining.{shorts_all, shorts_more}
use Rattle.upset_effect.proofs.Sunk.{driven_below}
use Rattle.upset_effect.proofs.shorts.short_sources.Goals as goal

pub add_short-requires : goal.add_short-requires
add_short-requires g c =
    let device = g.G.RoutingGraph.device c.graph.result.now in
    driven_below device c.args.live.now.graph (subst (IsGraph device) c.graph.ensures c.is_of_device.ensures) c.args.flips.now c.w-item.result
    ((c.requires c.w-item.result).0 (met c.args.hit.now c.loop-w.w-index c.w-item.result c.loop-w-test.true c.w-item.is)).0

pub loop-w-init : goal.loop-w-init
loop-w-init g c = λ x. (
  (λ i. absurd (subst (λ (zs : List ℕ). In zs x) c.new-sources.ensures.items i)),
  (λ h. absurd h.1.0),
)

pub loop-w-preserved : goal.loop-w-preserved
loop-w-preserved g c =
    let graph = c.args.live.now.graph in
    let image = bits c.args.live.now.image in
    let flips = bits_of_list c.args.flips.now in
    shorts_more (IsJoined graph image flips) (IsAfter graph image flips) c.args.hit.now c.loop-w.w-index c.w-item.result c.loop-w.sources.items c.add_short.new.sources.items
    c.loop-w-test.true c.w-item.is c.loop-w.invariant c.in_ok-add_short.ensures

pub returns : goal.returns
returns g c =
    let graph = c.args.live.now.graph in
    let image = bits c.args.live.now.image in
    let flips = bits_of_list c.args.flips.now in
    shorts_all (IsJoined graph image flips) (IsAfter graph image flips) c.args.hit.now (IsHitIn graph image flips) c.loop-w.w-index c.loop-w.sources.items (omega arith) c.requires c.loop-w.invariant
