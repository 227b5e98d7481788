-- What is found of one bit. (Our own.)
use Rattle.std.specs.Prelude.{◌≡◌, ◌≢◌, ℕ, Bool, true, false, Option, None, Some}
use Rattle.std.specs.Ordering.{nat_cmp}
use Rattle.patterns.specs.Bits.{DeviceBit, Bits}
use Rattle.records.specs.Side.{Domain, D0, D1, D2}
use Rattle.fabric.specs.Wires.{name_cmp}
use Rattle.upset.specs.Configured.{Configured}
use Rattle.upset.specs.Safe.{FlipsHave, IsBad, only}
use Rattle.design_checks.specs.Checks.{IsLeast}
use Rattle.design_answers.specs.BadBits.{DisturbedIn, TouchedIn, domain_cmp}
use Rattle.bad_bits.specs.Numbered.{NumberedPlace, OnWire, OnCell, NumberedBad}

-- the place of a domain of flips: the least disturbed wire of the domain, or where there is none the least touched cell
abbrev pub IsPlaceAt : Configured → Bits → Domain → NumberedPlace → Type 0
IsPlaceAt k flips d (OnWire w) = IsLeast nat_cmp (DisturbedIn k flips d) w
IsPlaceAt k flips d (OnCell name) = ((w : ℕ) → DisturbedIn k flips d w → ⊥) × IsLeast name_cmp (TouchedIn k flips d) name

-- the place of a domain, or none where the flips don't have it
abbrev pub PlaceOrNone : Configured → Bits → Domain → Option NumberedPlace → Type 0
PlaceOrNone k flips d None = FlipsHave k flips d → ⊥
PlaceOrNone k flips d (Some place) = IsPlaceAt k flips d place

-- a bit with two domains and the place of each
pub record ArePlaces (k : Configured) (flips : Bits) (bit : DeviceBit) (first second : Domain) (b : NumberedBad) : Type 0 where
  pub bit_is : b.bit ≡ bit
  pub first_is : b.first ≡ first
  pub first_at : IsPlaceAt k flips first b.first_at
  pub second_is : b.second ≡ second
  pub second_at : IsPlaceAt k flips second b.second_at

-- that, or none where the flips don't have both domains
abbrev pub PlacesOrNone : Configured → Bits → DeviceBit → Domain → Domain → Option NumberedBad → Type 0
PlacesOrNone k flips bit first second None = FlipsHave k flips first → FlipsHave k flips second → ⊥
PlacesOrNone k flips bit first second (Some b) = ArePlaces k flips bit first second b

-- the bit, with its two least domains and the place of each
pub record IsFoundBad (k : Configured) (bit : DeviceBit) (b : NumberedBad) : Type 0 where
  pub bit_is : b.bit ≡ bit
  pub first : IsLeast domain_cmp (FlipsHave k (only bit)) b.first
  pub second : IsLeast domain_cmp (λ d. FlipsHave k (only bit) d × (d ≢ b.first)) b.second
  pub first_at : IsPlaceAt k (only bit) b.first b.first_at
  pub second_at : IsPlaceAt k (only bit) b.second b.second_at

-- what is found of a bit, or none where it isn't bad
abbrev pub BadOrNone : Configured → DeviceBit → Option NumberedBad → Type 0
BadOrNone k bit None = IsBad k (only bit) → ⊥
BadOrNone k bit (Some b) = IsFoundBad k bit b

-- the two least domains of those that are there; none where fewer than two are
abbrev pub two_of : Bool → Bool → Bool → Option (Domain × Domain)
two_of true true d2 = Some (D0, D1)
two_of true false true = Some (D0, D2)
two_of false true true = Some (D1, D2)
two_of true false false = None
two_of false true false = None
two_of false false d2 = None
