-- The spelling of a pattern's bit: `F<f>B<b>`, with a `!` before it where the bit must be 0.
-- (After Project Trellis; the bounds are our own.)
use Rattle.std.specs.Prelude.{ℕ, Bool, true, false, List, [], ◌∷◌, ◌++◌, Option, None, option_map, if◌then◌else◌, ◌==◌}
use Rattle.std.specs.Option.{option_and_then}
use Rattle.std.specs.List.{before_first, after_first}
use Rattle.std.specs.Fmt.{decimal}
use Rattle.patterns.specs.Bits.{PatternBit}
use Rattle.texts.specs.Numbers.{number_up_to}

abbrev pub is_b : ℕ → Bool
is_b b = b == 66

-- the bit of what stands behind the `F`: a number, a `B`, and a number, each at most 65,535
abbrev pub bit_behind_f : Bool → List ℕ → Option PatternBit
bit_behind_f set rest =
    option_and_then (λ frame. option_map (λ bit. record { frame = frame; bit = bit; set = set }) (number_up_to 65535 (after_first is_b rest)))
    (number_up_to 65535 (before_first is_b rest))

abbrev pub bit_behind_mark : Bool → List ℕ → Option PatternBit
bit_behind_mark set [] = None
bit_behind_mark set (b ∷ rest) = if b == 70 then bit_behind_f set rest else None

-- the bit that a word spells
abbrev pub pattern_bit_of : List ℕ → Option PatternBit
pattern_bit_of [] = None
pattern_bit_of (b ∷ rest) = if b == 33 then bit_behind_mark false rest else bit_behind_mark true (b ∷ rest)

-- the word that spells a bit, with the fewest digits
abbrev pub spelling_of : PatternBit → List ℕ
spelling_of p = (if p.set then [] else 33 ∷ []) ++ 70 ∷ decimal p.frame ++ 66 ∷ decimal p.bit
