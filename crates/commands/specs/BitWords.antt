-- The words that name bits. (Our own.)
use Rattle.std.specs.Prelude.{ℕ, ◌+◌, List, [], ◌∷◌, Option, Some, None, Result, Ok, Err, if◌then◌else◌}
use Rattle.patterns.specs.Bits.{DeviceBit, PatternBit}
use Rattle.texts.specs.PatternBits.{pattern_bit_of}

-- the device bit of a plain bit; one with `!` has none
abbrev pub plain_bit : Option PatternBit → Option DeviceBit
plain_bit None = None
plain_bit (Some p) = if p.set then Some (record { frame = p.frame; bit = p.bit }) else None

-- the bit that a word names
abbrev pub bit_word : List ℕ → Option DeviceBit
bit_word word = plain_bit (pattern_bit_of word)

-- what is read of the first word in front of what is read of the rest; the word's number is told where it
-- has no reading
abbrev pub word_then : {X : Type 0} → ℕ → Option X → Result (List X) ℕ → Result (List X) ℕ
word_then number None rest = Err number
word_then number (Some x) (Ok xs) = Ok (x ∷ xs)
word_then number (Some x) (Err k) = Err k

-- the bits that words name, the first of which has this number
abbrev pub bit_words : ℕ → List (List ℕ) → Result (List DeviceBit) ℕ
bit_words number [] = Ok []
bit_words number (word ∷ words) = word_then number (bit_word word) (bit_words (number + 1) words)
