-- Bits of the configuration memory, patterns of them, and sets of them.
-- (After Project Trellis: a device bit is a frame and a bit of it, a tile's bits begin at its start frame
-- and start bit, and `!` marks a bit of a pattern that must be 0.)
use Rattle.std.specs.Prelude.{ℕ, ◌+◌, Bool, not, List, ◌==◌, ◌&&◌, if◌then◌else◌}
use Rattle.std.specs.List.{list_any}

-- a bit of the device
pub record DeviceBit : Type 0 where
  pub frame : ℕ
  pub bit : ℕ

-- A bit of a pattern, counted from the place where its tile's bits begin: a plain bit where `set` is true,
-- else one that must be 0, written with `!`.
pub record PatternBit : Type 0 where
  pub frame : ℕ
  pub bit : ℕ
  pub set : Bool

-- a set of device bits, as the test of its members
abbrev pub Bits : Type 0
Bits = DeviceBit → Bool

abbrev pub same_bit : DeviceBit → DeviceBit → Bool
same_bit a b = (a.frame == b.frame) && (a.bit == b.bit)

-- the set of the bits of a list
abbrev pub bits_of_list : List DeviceBit → Bits
bits_of_list bits b = list_any (same_bit b) bits

-- the device bit of a pattern's bit, in a tile whose bit F0B0 is the device bit `origin`
abbrev pub device_bit : DeviceBit → PatternBit → DeviceBit
device_bit origin p = record { frame = origin.frame + p.frame; bit = origin.bit + p.bit }

-- the set after the flip of each bit of another set
abbrev pub flipped : Bits → Bits → Bits
flipped flips image b = if flips b then not (image b) else image b
