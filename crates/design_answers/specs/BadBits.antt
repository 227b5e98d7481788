-- The bad bits of a design, each with two domains and a place of each. (The aim is RoRA's; orders and places are our
-- own.)
use Rattle.std.specs.Prelude.{◌≡◌, ◌≢◌, ℕ, true, List, Some, slice_get}
use Rattle.std.specs.declared.cmp.Ordering.{Ordering}
use Rattle.std.specs.Ordering.{nat_cmp}
use Rattle.words.specs.Members.{In}
use Rattle.patterns.specs.Bits.{DeviceBit, Bits}
use Rattle.records.specs.Side.{Domain}
use Rattle.fabric.specs.Wires.{Wire, name_cmp}
use Rattle.fabric.specs.MuxBits.{bit_cmp, mux_bits, is_mux_bit}
use Rattle.fabric.specs.Graph.{Graph}
use Rattle.fabric.specs.InOrder.{IsRising, InOrderOnce}
use Rattle.circuit.specs.Domains.{HasDomain}
use Rattle.circuit.specs.Triples.{LiesIn}
use Rattle.upset.specs.Configured.{Configured, circuit_of}
use Rattle.upset.specs.Effect.{IsDisturbed, IsTouched}
use Rattle.upset.specs.Safe.{FlipsHave, IsBad, only}
use Rattle.side_form.specs.SidePrint.{domain_number}
use Rattle.reports.specs.Reports.{Place, AtWire, InCell, BadPlace}
use Rattle.design_checks.specs.Checks.{IsLeast}

abbrev pub domain_cmp : Domain → Domain → Ordering
domain_cmp d e = nat_cmp (domain_number d) (domain_number e)

abbrev pub DisturbedIn : Configured → Bits → Domain → ℕ → Type 0
DisturbedIn k flips d w = IsDisturbed k flips w × HasDomain (circuit_of k) w d

abbrev pub TouchedIn : Configured → Bits → Domain → List ℕ → Type 0
TouchedIn k flips d name = IsTouched k flips name × LiesIn k.cells name d

-- the place of a domain of flips: the least disturbed wire of the domain, or where there is none the least touched cell
pub data IsPlaceOf (k : Configured) (flips : Bits) (d : Domain) : Place → Type 0 where
  at_wire : (w : ℕ) (wire : Wire) → IsLeast nat_cmp (DisturbedIn k flips d) w → slice_get k.graph.wires w ≡ Some wire → IsPlaceOf k flips d (AtWire wire)
  in_cell : (name : List ℕ) → ((w : ℕ) → DisturbedIn k flips d w → ⊥) → IsLeast name_cmp (TouchedIn k flips d) name → IsPlaceOf k flips d (InCell name)

-- a routing-mux bit that is bad, with its two least domains
pub record IsBadPlace (k : Configured) (b : BadPlace) : Type 0 where
  pub mux_bit : is_mux_bit k.graph b.bit ≡ true
  pub first : IsLeast domain_cmp (FlipsHave k (only b.bit)) b.first
  pub second : IsLeast domain_cmp (λ d. FlipsHave k (only b.bit) d × (d ≢ b.first)) b.second
  pub first_at : IsPlaceOf k (only b.bit) b.first b.first_at
  pub second_at : IsPlaceOf k (only b.bit) b.second b.second_at

-- all bad bits, in order
pub record AreBadPlaces (k : Configured) (list : List BadPlace) : Type 0 where
  pub rising : IsRising (λ a b. bit_cmp a.bit b.bit) list
  pub each : (b : BadPlace) → In list b → IsBadPlace k b
  pub all : (bit : DeviceBit) → is_mux_bit k.graph bit ≡ true → IsBad k (only bit) → (b : BadPlace) × (In list b × (b.bit ≡ bit))

-- the routing-mux bits in order, each once
abbrev pub AreMuxBits : Graph → List DeviceBit → Type 0
AreMuxBits g bits = InOrderOnce bit_cmp (mux_bits g) bits
