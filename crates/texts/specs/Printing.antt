-- How words, lines and bits are printed. (Our own.)
use Rattle.std.specs.Prelude.{ℕ, Bool, List, [], ◌∷◌, ◌++◌, map, if◌then◌else◌}
use Rattle.std.specs.List.{flat_map}

abbrev pub line_feed : List ℕ
line_feed = 10 ∷ []

-- words with a space before each
abbrev pub spaced : List (List ℕ) → List ℕ
spaced words = flat_map (λ word. 32 ∷ word) words

-- a line of a first word and others, with a space between two
abbrev pub line_of : List ℕ → List (List ℕ) → List ℕ
line_of word words = word ++ spaced words ++ line_feed

-- a digit for each bit, in the order of the list
abbrev pub bit_digits : List Bool → List ℕ
bit_digits bits = map (λ b. if b then 49 else 48) bits
