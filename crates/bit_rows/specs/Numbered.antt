-- Bits in bit order under dense numbers. (Our own.)
use Rattle.std.specs.Prelude.{◌≡◌, ◌-◌, ◌<◌, ◌≤◌, ◌^◌, ℕ, Bool, false, List, [], ◌∷◌, ◌++◌, Some, length, map, flat_map, slice_get, if◌then◌else◌}
use Rattle.std.specs.Option.{option_map_or}
use Rattle.words.specs.Members.{In}
use Rattle.patterns.specs.Bits.{DeviceBit, same_bit}
use Rattle.fabric.specs.InOrder.{InOrderOnce, IsRising}
use Rattle.fabric.specs.MuxBits.{bit_cmp}
use Rattle.bit_rows.specs.MuxBits.{MuxBit, muxes_with}

-- the last of some bits is this one
abbrev pub ends_with : List DeviceBit → DeviceBit → Bool
ends_with bits b = option_map_or (same_bit b) (slice_get bits (length bits - 1)) false

-- the bits, with one more at the end unless it is the last one already
abbrev pub with_last : List DeviceBit → DeviceBit → List DeviceBit
with_last bits b = if ends_with bits b then bits else bits ++ b ∷ []

-- the bits of pairs in bit order, each once, with the number of each pair's bit among them
pub record AreNumbered (pairs : List MuxBit) (bits : List DeviceBit) (numbers : List ℕ) : Type 0 where
  pub rising : IsRising bit_cmp bits
  pub named : (b : DeviceBit) → In bits b → In (map (λ p. p.bit) pairs) b
  pub numbered : map (slice_get bits) numbers ≡ map (λ p. Some p.bit) pairs
  pub few : length bits ≤ length pairs

-- the bits of rows by mux in bit order, each once, and for each of them the muxes that have it
pub record AreInverse (rows : List (List DeviceBit)) (all : List DeviceBit) (muxes : List (List ℕ)) : Type 0 where
  pub bits : InOrderOnce bit_cmp (flat_map (λ row. row) rows) all
  pub by_bit : muxes ≡ map (muxes_with rows) all
  pub few : length all < 2 ^ 32
