-- Writes of the lines of a text, one by one.
use Rattle.std.specs.Prelude.{Bool, List, [], ◌∷◌, if◌then◌else◌}
use Rattle.patterns.specs.Bits.{DeviceBit, PatternBit, Bits}
use Rattle.patterns.specs.Written.{opposite}
use Rattle.fabric.specs.Image.{Write, after_writes}

-- the write of a bit of a word with its pattern: the pattern, or its opposite where the bit is 0
abbrev pub word_bit_write : DeviceBit → List PatternBit × Bool → Write
word_bit_write origin p = record { origin = origin; pattern = if p.1 then p.0 else opposite p.0 }

-- what the writes of elements leave, one element after the other
abbrev pub after_all : {X : Type 0} → (X → List Write) → Bits → List X → Bits
after_all writes image [] = image
after_all writes image (x ∷ xs) = after_all writes (after_writes image (writes x)) xs
