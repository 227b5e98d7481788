use Rattle.std.proofs.Common.{◌≡◌, ◌||◌, drop}
use Rattle.patterns.specs.Bits.{DeviceBit, bits_of_list}
use Rattle.cram_image.specs.Image.{bits}
use Rattle.top_call.proofs.drivers.image_of.Given as goal

-- a bit is in the image so far or among those that are left just where it is among all
abbrev pub invariant-loop-bit : goal.invariant-loop-bit
invariant-loop-bit l = (b : DeviceBit) → bits l.image b || bits_of_list (drop l.bit-index l.bits) b ≡ bits_of_list l.bits b
