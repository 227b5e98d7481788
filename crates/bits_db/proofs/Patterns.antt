-- A pattern that grows by one bit at a time.
use Rattle.std.proofs.Common.{◌≡◌, List, [], ◌∷◌, ◌++◌, Option, Some, None, option_map, refl, ap, append_assoc}
use Rattle.patterns.specs.Bits.{PatternBit}
use Rattle.grammars.specs.BitsDb.{with_front}

-- one more bit at the end of those so far is one in front of those that are left
pub one_more : (front : List PatternBit) (bit : PatternBit) (rest : Option (List PatternBit))
    → option_map (λ more. (front ++ bit ∷ []) ++ more) rest ≡ option_map (λ more. front ++ more) (with_front (Some bit) rest)
one_more front bit None = refl
one_more front bit (Some more) = ap Some (append_assoc front (bit ∷ []) more)
