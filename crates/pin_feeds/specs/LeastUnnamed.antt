-- The least of the first pins whose feed is the output of no part. (Our own.)
use Rattle.std.specs.Prelude.{◌≡◌, ◌≢◌, ℕ, ◌<◌, List, slice_get, Option, None, Some}
use Rattle.std.specs.declared.cmp.Ordering.TheVariants.{Greater}
use Rattle.circuit.specs.Pins.{Pin}
use Rattle.attempts.specs.PinOrder.{pin_cmp}
use Rattle.pin_feeds.specs.declared.errors.UnnamedFeed.{UnnamedFeed}

-- A pin with such a feed, which comes after none of the first pins that have one.
pub record IsLeastOf (unnamed : ℕ → Option ℕ) (pins : List Pin) (n : ℕ) (u : UnnamedFeed) : Type 0 where
  pub pin : Pin
  pub numbered : slice_get pins u.pin ≡ Some pin
  pub feed : unnamed pin.wire ≡ Some u.feed
  pub least : (i o : ℕ) (q : Pin) → i < n → slice_get pins i ≡ Some q → unnamed q.wire ≡ Some o → pin_cmp pin.ref q.ref ≢ Greater

-- the least of the first pins with such a feed, or none where none of them has one
abbrev pub LeastSoFar : (ℕ → Option ℕ) → List Pin → ℕ → Option UnnamedFeed → Type 0
LeastSoFar unnamed pins n None = (i : ℕ) (q : Pin) → i < n → slice_get pins i ≡ Some q → unnamed q.wire ≡ None
LeastSoFar unnamed pins n (Some u) = IsLeastOf unnamed pins n u
