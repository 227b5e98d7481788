-- The least pin whose feed is no output of a part that is modelled. (Our own.)
use Rattle.std.specs.Prelude.{◌≡◌, ℕ, Some, slice_get}
use Rattle.circuit.specs.Pins.{Pin, pins}
use Rattle.circuit.specs.Circuits.{Circuit}
use Rattle.attempts.specs.PinOrder.{pin_cmp}
use Rattle.design_checks.specs.Checks.{IsLeast}
use Rattle.design_checks.specs.PinChecks.{IsFedUnnamed}
use Rattle.pin_feeds.specs.declared.errors.UnnamedFeed.{UnnamedFeed}
use Rattle.pin_feeds.specs.declared.errors.FeedError.{FeedError}
use Rattle.pin_feeds.specs.declared.errors.FeedError.TheVariants.{Unnamed, Memory}

-- the pin with this number is the least that a cell output feeds which is no modelled one, and this is its feed
pub record IsUnnamedFeed (c : Circuit) (u : UnnamedFeed) : Type 0 where
  pub pin : Pin
  pub numbered : slice_get (pins c.cells) u.pin ≡ Some pin
  pub least : IsLeast pin_cmp (λ ref. (o : ℕ) × IsFedUnnamed c ref o) pin.ref
  pub feed : IsFedUnnamed c pin.ref u.feed

-- an error names such a pin; want of memory says nothing of the circuit
abbrev pub Refuses : Circuit → FeedError → Type 0
Refuses c (Unnamed u) = IsUnnamedFeed c u
Refuses c Memory = Unit {0}
