-- Single bits as writes leave them.
use Rattle.std.specs.Prelude.{◌≡◌, ◌≢◌, Bool, List, ◌∷◌, ◌++◌, map, flat_map}
use Rattle.words.specs.Members.{In}
use Rattle.patterns.specs.Bits.{DeviceBit, device_bit}
use Rattle.fabric.specs.Image.{Write}

-- a device bit that is set or cleared
pub record BitWrite : Type 0 where
  pub bit : DeviceBit
  pub value : Bool

-- the bits that writes set and clear, one after the other
abbrev pub bit_writes : List Write → List BitWrite
bit_writes ws = flat_map (λ w. map (λ p. record { bit = device_bit w.origin p; value = p.set }) w.pattern) ws

-- no write names the bit
abbrev pub IsUnwritten : List BitWrite → DeviceBit → Type 0
IsUnwritten es b = (e : BitWrite) → In es e → e.bit ≢ b

-- the last write that names the bit gives it this value
pub record LastWritten (es : List BitWrite) (b : DeviceBit) (value : Bool) : Type 0 where
  pub earlier : List BitWrite
  pub later : List BitWrite
  pub whole : es ≡ earlier ++ record { bit = b; value = value } ∷ later
  pub last : IsUnwritten later b
