use Rattle.std.proofs.Common.{ℕ, List, refl, sym, subst, ◌∙◌, arith}
use Rattle.words.specs.Members.{In}
use Rattle.patterns.specs.Bits.{bits_of_list}
use Rattle.net_links.proofs.Listed.{met}
use Rattle.upset_effect.proofs.Driving.{driven_by, none_drives}
use Rattle.upset_effect.proofs.Gathered.{mux_below}
use Rattle.upset_effect.proofs.decided.is_driven.Goals as goal

pub is_affected-requires : goal.is_affected-requires
is_affected-requires g c =
    mux_below (g.G.NamedGraph.graph c.args.graph.now) c.args.w c.m-item.result
    (subst (λ (xs : List ℕ). In xs c.m-item.result) c.muxes_into-m-items.ensures (met c.muxes_into-m-items.result.now c.loop-m.m-index c.m-item.result c.loop-m-test.true c.m-item.is))

pub returns-then-is_affected : goal.returns-then-is_affected
returns-then-is_affected g c = (
  (λ h. driven_by (g.G.RoutingGraph.device c.args.graph.now) (g.G.NamedGraph.graph c.args.graph.now) c.is_of_device.ensures (bits_of_list c.args.flips.now) c.args.w c.m-item.result
      (subst (λ (xs : List ℕ). In xs c.m-item.result) c.muxes_into-m-items.ensures (met c.muxes_into-m-items.result.now c.loop-m.m-index c.m-item.result c.loop-m-test.true c.m-item.is))
      (sym c.is_affected.ensures ∙ c.if-is_affected.true)),
  (λ h. refl),
)

pub returns : goal.returns
returns g c = (
  (λ h. absurd (let no : ⊥ = cc in no)),
  (λ h. absurd (none_drives (g.G.RoutingGraph.device c.args.graph.now) (g.G.NamedGraph.graph c.args.graph.now) c.is_of_device.ensures (bits_of_list c.args.flips.now) c.args.w
      c.muxes_into-m-items.result.now c.muxes_into-m-items.ensures (λ k l. c.loop-m.invariant k (let t = c.loop-m-test.false in omega arith)) h)),
)
