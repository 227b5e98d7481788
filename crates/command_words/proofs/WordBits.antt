-- Bits that words name, read one after the other.
use Rattle.std.proofs.Common.{◌≡◌, ℕ, List, [], ◌∷◌, ◌++◌, Result, Ok, Err, Some, refl, ap, append_assoc}
use Rattle.patterns.specs.Bits.{DeviceBit}
use Rattle.commands.specs.BitWords.{word_then}

-- bits in front of others that were read
abbrev pub behind : List DeviceBit → Result (List DeviceBit) ℕ → Result (List DeviceBit) ℕ
behind front (Ok bits) = Ok (front ++ bits)
behind front (Err k) = Err k

-- one more bit at the end of those so far is one in front of those that are left
pub behind_one_more : (front : List DeviceBit) (bit : DeviceBit) (number : ℕ) (rest : Result (List DeviceBit) ℕ) → behind (front ++ bit ∷ []) rest ≡ behind front (word_then number (Some bit) rest)
behind_one_more front bit number (Ok bits) = ap Ok (append_assoc front (bit ∷ []) bits)
behind_one_more front bit number (Err k) = refl

pub behind_none : (rest : Result (List DeviceBit) ℕ) → behind [] rest ≡ rest
behind_none (Ok bits) = refl
behind_none (Err k) = refl
