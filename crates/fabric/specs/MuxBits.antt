-- Device bits in order, and those of the routing muxes. (The order and the name are our own.)
use Rattle.std.specs.Prelude.{ℕ, List, ◌++◌, map, flat_map, codes}
use Rattle.std.specs.declared.cmp.Ordering.{Ordering}
use Rattle.std.specs.Ordering.{nat_cmp, ordering_then}
use Rattle.std.specs.Fmt.{decimal}
use Rattle.patterns.specs.Bits.{DeviceBit, PatternBit, Bits, bits_of_list, device_bit}
use Rattle.fabric.specs.Graph.{Graph}

-- device bits are ordered by frame, then bit
abbrev pub bit_cmp : DeviceBit → DeviceBit → Ordering
bit_cmp a b = ordering_then (nat_cmp a.frame b.frame) (nat_cmp a.bit b.bit)

-- and print as `F20B8`
abbrev pub bit_text : DeviceBit → List ℕ
bit_text b = codes "F" ++ decimal b.frame ++ codes "B" ++ decimal b.bit

-- the device bits that a pattern names
abbrev pub bits_named : DeviceBit → List PatternBit → List DeviceBit
bits_named origin pattern = map (device_bit origin) pattern

-- The routing-mux bits: those of all patterns of all muxes of all tiles with a place, whether or not a
-- configuration has a section for the tile. (Our own.)
abbrev pub mux_bits : Graph → List DeviceBit
mux_bits g = flat_map (λ a. bits_named a.origin a.arc.bits) g.arcs

abbrev pub is_mux_bit : Graph → Bits
is_mux_bit g = bits_of_list (mux_bits g)
