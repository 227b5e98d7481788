-- How many bits the longest pattern of an arc has that fits: what chosen arcs are compared with in one pass.
use Rattle.std.specs.Prelude.{ℕ, Bool, true, false, List, [], ◌∷◌, length, max, map, filter, nat_le, ◌&&◌, if◌then◌else◌}
use Rattle.patterns.specs.Bits.{DeviceBit, Bits}
use Rattle.patterns.specs.Fits.{fits}
use Rattle.records.specs.Database.{Arc}
use Rattle.answers.specs.Drivers.{no_origin}

-- the most bits of an arc of the list that fits, or 0 where none does
abbrev pub longest_fit : Bits → DeviceBit → List Arc → ℕ
longest_fit image origin [] = 0
longest_fit image origin (arc ∷ arcs) =
    if fits image origin arc.bits then max (length arc.bits) (longest_fit image origin arcs) else longest_fit image origin arcs

-- the sources of the arcs that fit and have at least so many bits
abbrev pub sources_of : Bits → ℕ → List Arc → List (List ℕ)
sources_of image longest arcs = map (λ arc. arc.source) (filter (λ arc. fits image no_origin arc.bits && nat_le longest (length arc.bits)) arcs)

abbrev pub has_any : List (List ℕ) → Bool
has_any [] = false
has_any (source ∷ sources) = true
