-- When a pattern fits a set of device bits, and when it is present in one.
use Rattle.std.specs.Prelude.{Bool, true, not, List, if◌then◌else◌}
use Rattle.std.specs.List.{list_all, list_any}
use Rattle.patterns.specs.Bits.{DeviceBit, PatternBit, Bits, device_bit}

-- A pattern fits when each of its plain bits is in the set and none of its `!` bits is.
-- (After Project Trellis.)
abbrev pub fits : Bits → DeviceBit → List PatternBit → Bool
fits image origin pattern = list_all (λ p. if p.set then image (device_bit origin p) else not (image (device_bit origin p))) pattern

-- It is present when each of its plain bits is in the set. (Our own.)
abbrev pub present : Bits → DeviceBit → List PatternBit → Bool
present image origin pattern = list_all (λ p. if p.set then image (device_bit origin p) else true) pattern

-- some bit of the pattern is plain
abbrev pub has_plain_bit : List PatternBit → Bool
has_plain_bit pattern = list_any (λ p. p.set) pattern
