-- A pattern written into a set of device bits.
use Rattle.std.specs.Prelude.{Bool, not, List, [], ◌∷◌, map, if◌then◌else◌}
use Rattle.patterns.specs.Bits.{DeviceBit, PatternBit, Bits, same_bit, device_bit}

-- the set once a bit was set or cleared
abbrev pub with_bit : Bits → DeviceBit → Bool → Bits
with_bit image at value b = if same_bit at b then value else image b

-- A pattern is written bit by bit in the order in which it names them: a plain bit is set and a `!` bit is
-- cleared. A later bit wins. (After Project Trellis; the order is our own.)
abbrev pub written : Bits → DeviceBit → List PatternBit → Bits
written image origin [] = image
written image origin (p ∷ ps) = written (with_bit image (device_bit origin p) p.set) origin ps

-- the opposite pattern: its plain bits are `!` bits, and the other way round
abbrev pub opposite : List PatternBit → List PatternBit
opposite pattern = map (λ p. record { frame = p.frame; bit = p.bit; set = not p.set }) pattern
