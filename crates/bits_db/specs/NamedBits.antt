-- Rows that are a name and a pattern, as arcs and options are.
use Rattle.std.specs.Prelude.{ℕ, List, Option, None, option_map, if◌then◌else◌}
use Rattle.patterns.specs.Bits.{PatternBit}
use Rattle.texts.specs.Names.{is_name}
use Rattle.grammars.specs.BitsDb.{bits_of}

-- the name and the pattern of `NAME BITS`
abbrev pub named_bits_of : List ℕ → List (List ℕ) → Option (List ℕ × List PatternBit)
named_bits_of name bits = if is_name name then option_map (λ pattern. (name, pattern)) (bits_of bits) else None
