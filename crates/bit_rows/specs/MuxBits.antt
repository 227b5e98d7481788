-- Device bits of muxes, one by one and in rows. (Our own.)
use Rattle.std.specs.Prelude.{ℕ, List, map, filter, ◌==◌}
use Rattle.std.specs.List.{range_with_len}
use Rattle.std.specs.declared.cmp.Ordering.{Ordering}
use Rattle.std.specs.Ordering.{nat_cmp, ordering_then}
use Rattle.patterns.specs.Bits.{DeviceBit, bits_of_list}
use Rattle.fabric.specs.MuxBits.{bit_cmp}
use Rattle.graph_lists.specs.Places.{places}

-- a device bit of a mux
pub record MuxBit : Type 0 where
  pub mux : ℕ
  pub bit : DeviceBit

-- by mux, then bit; and by bit, then mux
abbrev pub mux_first : MuxBit → MuxBit → Ordering
mux_first a b = ordering_then (nat_cmp a.mux b.mux) (bit_cmp a.bit b.bit)

abbrev pub bit_first : MuxBit → MuxBit → Ordering
bit_first a b = ordering_then (bit_cmp a.bit b.bit) (mux_first a b)

-- the bits of each mux below a count
abbrev pub bits_by_mux : ℕ → List MuxBit → List (List DeviceBit)
bits_by_mux count pairs = map (λ m. map (λ p. p.bit) (filter (λ p. p.mux == m) pairs)) (range_with_len 0 count)

-- the muxes that have a bit, of rows of bits by mux
abbrev pub muxes_with : List (List DeviceBit) → DeviceBit → List ℕ
muxes_with rows b = places (λ row. bits_of_list row b) rows
