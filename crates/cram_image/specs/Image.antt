-- Images as sets of device bits. (Our own.)
use Rattle.std.specs.Prelude.{List}
use Rattle.patterns.specs.Bits.{DeviceBit, Bits, bits_of_list}

-- the set of an image's bits, as the test of its members
abbrev pub bits : List DeviceBit → Bits
bits image = bits_of_list image
