-- Chains of counting drivers don't matter for domains, and a wire without a feed stands on none.
use Rattle.std.proofs.Common.{ℕ, ◌↔◌, inl, inr}
use Rattle.patterns.specs.Bits.{Bits}
use Rattle.records.specs.Side.{Domain}
use Rattle.links.specs.Links.{Routing, here, onto, Fed, Feeds, IsClean, Upstream}
use Rattle.links.proofs.Feeds.{feeds_on, one_feed}
use Rattle.fabric.specs.Links.{routing_of}
use Rattle.circuit.specs.Circuits.{Circuit}
use Rattle.circuit.specs.Domains.{HasDomain}
use Rattle.upset.specs.Configured.{Configured, circuit_of}
use Rattle.upset.specs.Effect.{IsShortSource, IsDisturbed}
use Rattle.upset.specs.Roots.{IsRoot, RootsHave}
use Rattle.upset.specs.Safe.{FlipsHave}

-- what feeds a driver feeds what stands on it
feeds_along : (r : Routing) (c x w : ℕ) → Upstream r x w → Feeds r c w → Feeds r c x
feeds_along r c x w here f = f
feeds_along r c x w (onto {b} q s) f = feeds_along r c x b q (feeds_on r c w b f s.0)

-- a wire has the domain of a driver that it stands on
pub domain_along : (c : Circuit) (x w : ℕ) (d : Domain) → IsClean c.routing → Upstream c.routing x w → HasDomain c w d → HasDomain c x d
domain_along c x w d clean up h =
    let fed = feeds_along c.routing h.source.out x w up h.feeds in
    record { source = h.source; listed = h.listed; feeds = fed; only = λ o f. one_feed c.routing clean o h.source.out x f fed; domain = h.domain }

pub roots_domains : (k : Configured) (flips : Bits) → IsClean (routing_of k.graph k.image) → (d : Domain) → FlipsHave k flips d ↔ RootsHave k flips d
roots_domains k flips clean d = (
  (λ h. elim h [
    | inl w ↦ inl (elim w.1.0 [
      | inl hit ↦ (w.0, (inl hit, w.1.1))
      | inr x ↦ (x.0, (inr x.1.0, domain_along (circuit_of k) x.0 w.0 d clean x.1.1 w.1.1))
    ])
    | inr t ↦ inr t
  ]),
  (λ h. elim h [
    | inl w ↦ inl (w.0, ((elim w.1.0 [ inl hit ↦ inl hit | inr s ↦ inr (w.0, (s, here)) ]), w.1.1))
    | inr t ↦ inr t
  ]),
)

unfed_start : (k : Configured) (flips : Bits) (x w : ℕ) → (Fed (routing_of k.graph k.image) w → ⊥) → IsShortSource k flips x → Upstream (routing_of k.graph k.image) x w → IsRoot k flips w
unfed_start k flips x w unfed s here = inr s
unfed_start k flips x w unfed s (onto q c) = absurd (unfed c.1)

pub unfed_roots : (k : Configured) (flips : Bits) (w : ℕ) → (Fed (routing_of k.graph k.image) w → ⊥) → IsDisturbed k flips w ↔ IsRoot k flips w
unfed_roots k flips w unfed = (
  (λ h. elim h [ inl hit ↦ inl hit | inr x ↦ unfed_start k flips x.0 w unfed x.1.0 x.1.1 ]),
  (λ h. elim h [ inl hit ↦ inl hit | inr s ↦ inr (w, (s, here)) ]),
)
