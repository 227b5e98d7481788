-- Flips that reach two copies. (The aim is RoRA's; the form is our own.)
use Rattle.std.specs.Prelude.{◌≡◌, ◌≢◌, true}
use Rattle.patterns.specs.Bits.{DeviceBit, Bits, same_bit}
use Rattle.records.specs.Side.{Domain}
use Rattle.fabric.specs.MuxBits.{is_mux_bit}
use Rattle.circuit.specs.Faults.{Fault, OneHas}
use Rattle.upset.specs.Configured.{Configured, circuit_of}
use Rattle.upset.specs.Effect.{IsDisturbed, IsTouched, IsEffect}

-- d is a domain of the flips: that of a disturbed wire or of a touched cell
abbrev pub FlipsHave : Configured → Bits → Domain → Type 0
FlipsHave k flips d = OneHas (circuit_of k) (IsDisturbed k flips) (IsTouched k flips) d

-- flips are bad when they have two domains
abbrev pub IsBad : Configured → Bits → Type 0
IsBad k flips = (d : Domain) × ((e : Domain) × (FlipsHave k flips d × FlipsHave k flips e × (d ≢ e)))

-- the set of one bit
abbrev pub only : DeviceBit → Bits
only b = same_bit b

-- The image is safe when no single routing-mux bit is bad.
abbrev pub IsSafe : Configured → Type 0
IsSafe k = (b : DeviceBit) → is_mux_bit k.graph b ≡ true → IsBad k (only b) → ⊥

-- a fault is that of the flips of one routing-mux bit
pub record IsMuxFault (k : Configured) (f : Fault) : Type 0 where
  pub bit : DeviceBit
  pub is_mux_bit : is_mux_bit k.graph bit ≡ true
  pub effect : IsEffect k (only bit) f
