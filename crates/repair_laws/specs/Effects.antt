-- What flips of device bits do once an arc was added, told by what they did before.
use Rattle.std.specs.Prelude.{◌≡◌, ◌≢◌, ℕ, ◌↔◌, ◌⊎◌}
use Rattle.patterns.specs.Bits.{DeviceBit, Bits}
use Rattle.records.specs.Side.{Domain}
use Rattle.links.specs.Links.{Drives, Below, Feeds, IsClean}
use Rattle.fabric.specs.Graph.{GraphArc}
use Rattle.fabric.specs.Agree.{HasLine, ArcsAgree}
use Rattle.records.specs.Config.{Config}
use Rattle.upset.specs.Configured.{Configured}
use Rattle.upset.specs.Effect.{After, IsHit, IsShortSource, IsDisturbed}
use Rattle.upset.specs.Safe.{FlipsHave, only}
use Rattle.repair.specs.Added.{added}
use Rattle.repair.specs.Turns.{Turn, routing}

-- One link more, from the arc's source to its sink; its source's feeds feed what is below its sink, and the routing
-- stays clean. The arcs agree where they did, with the line of the arc.
pub record IsAdded (k : Configured) (a : GraphArc) : Type 0 where
  pub links : (x w : ℕ) → Drives (routing (added k a)) x w ↔ (Drives (routing k) x w ⊎ ((x ≡ a.source) × (w ≡ a.sink)))
  pub feeds : (c w : ℕ) → Feeds (routing (added k a)) c w ↔ (Feeds (routing k) c w ⊎ (Feeds (routing k) c a.source × Below (routing k) a.sink w))
  pub clean : IsClean (routing k) → IsClean (routing (added k a))
  pub agree : (text more : Config) → ((c : GraphArc) → HasLine k.graph more c ↔ (HasLine k.graph text c ⊎ (c ≡ a)))
      → ArcsAgree k.graph k.image text → ArcsAgree k.graph (added k a).image more

-- the flips disturb a wire below the arc's sink
abbrev pub DisturbBelow : Turn → GraphArc → Bits → Type 0
DisturbBelow t a flips = (w : ℕ) × (Below (routing t.now) a.sink w × IsDisturbed t.now flips w)

-- Flips of none of the mux's bits: they hit the wires that they hit, with the same sources but at the sink, and have
-- the domains that they had, and the net's where they disturb a wire below the sink.
pub record KeepsEffect (t : Turn) (a : GraphArc) (flips : Bits) : Type 0 where
  pub hit : (w : ℕ) → IsHit (added t.now a) flips w ↔ IsHit t.now flips w
  pub after : (x w : ℕ) → w ≢ a.sink → After (added t.now a) flips x w ↔ After t.now flips x w
  pub sources : (x : ℕ) → IsShortSource (added t.now a) flips x ↔ IsShortSource t.now flips x
  pub domains : (d : Domain) → FlipsHave (added t.now a) flips d ↔ (FlipsHave t.now flips d ⊎ ((d ≡ t.net.domain) × DisturbBelow t a flips))

-- The flip of one of the mux's bits has the net's domain where it hits the sink, and no other.
abbrev pub HasNetDomain : Turn → GraphArc → DeviceBit → Type 0
HasNetDomain t a b = (d : Domain) → FlipsHave (added t.now a) (only b) d ↔ ((d ≡ t.net.domain) × IsHit (added t.now a) (only b) a.sink)
