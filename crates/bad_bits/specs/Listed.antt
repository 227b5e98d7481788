-- The bad bits among the first bits of a list. (Our own.)
use Rattle.std.specs.Prelude.{◌≡◌, List}
use Rattle.words.specs.Members.{In}
use Rattle.patterns.specs.Bits.{DeviceBit}
use Rattle.fabric.specs.InOrder.{IsRising}
use Rattle.fabric.specs.MuxBits.{bit_cmp}
use Rattle.upset.specs.Configured.{Configured}
use Rattle.upset.specs.Safe.{IsBad, only}
use Rattle.bad_bits.specs.Numbered.{NumberedBad}
use Rattle.bad_bits.specs.Found.{IsFoundBad}

-- the bad ones of some bits, in order
pub record AreFound (k : Configured) (bits : List DeviceBit) (bad : List NumberedBad) : Type 0 where
  pub rising : IsRising (λ a b. bit_cmp a.bit b.bit) bad
  pub each : (b : NumberedBad) → In bad b → In bits b.bit × IsFoundBad k b.bit b
  pub all : (bit : DeviceBit) → In bits bit → IsBad k (only bit) → (b : NumberedBad) × (In bad b × (b.bit ≡ bit))
