-- A text with an arc line more or less, or with another word.
use Rattle.std.specs.Prelude.{ℕ, Bool, List, ◌∷◌, map, filter, not, reverse, ◌==◌, bytes_eq, if◌then◌else◌}
use Rattle.records.specs.Config.{ArcLine, TileText, Config}

-- a text whose section of a tile is changed
abbrev pub in_section : List ℕ → (TileText → TileText) → Config → Config
in_section tile change config = record config { tiles = map (λ text. if bytes_eq text.tile tile then change text else text) config.tiles }

abbrev pub with_arc : List ℕ → ArcLine → Config → Config
with_arc tile line config = in_section tile (λ text. record text { arcs = line ∷ text.arcs }) config

abbrev pub without_arc : List ℕ → List ℕ → Config → Config
without_arc tile sink config = in_section tile (λ text. record text { arcs = filter (λ line. not (bytes_eq line.sink sink)) text.arcs }) config

-- the bits of digits, of which the highest stands first
abbrev pub bits_of_digits : List ℕ → List Bool
bits_of_digits digits = reverse (map (λ d. d == 49) digits)

-- all words of a section are these digits
abbrev pub with_word : List ℕ → List ℕ → Config → Config
with_word tile digits config =
    in_section tile (λ text. record text { words = map (λ w. record { name = w.name; bits = bits_of_digits digits; line = w.line }) text.words }) config
