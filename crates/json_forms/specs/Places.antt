-- The place that a tile's name gives. (After Project Trellis.)
use Rattle.std.specs.Prelude.{ℕ, Bool, List, [], ◌∷◌, length, drop, take_while, Option, Some, None, option_map, option_and_then, if◌then◌else◌, ◌==◌}
use Rattle.std.specs.List.{before_first}
use Rattle.words.specs.Firsts.{or_else}
use Rattle.texts.specs.Numbers.{is_digit, value_of}

-- a letter and one or more decimal digits at the front of a text: their value, and what stands behind all the
-- digits there
abbrev pub behind_digits : List ℕ → Option (ℕ × List ℕ)
behind_digits text =
    let digits = take_while is_digit text in
    if length digits == 0 then None else Some (value_of digits, drop (length digits) text)

abbrev pub lettered : ℕ → List ℕ → Option (ℕ × List ℕ)
lettered letter [] = None
lettered letter (b ∷ bs) = if b == letter then behind_digits bs else None

-- `R<row>C<col>` at the front of a text, row and col each all the decimal digits that stand there
abbrev pub place_at_front : List ℕ → Option (ℕ × ℕ)
place_at_front text = option_and_then (λ row. option_map (λ col. (row.0, col.0)) (lettered 67 row.1)) (lettered 82 text)

-- the first place in a text
abbrev pub first_place : List ℕ → Option (ℕ × ℕ)
first_place [] = None
first_place (b ∷ bs) = or_else (place_at_front (b ∷ bs)) (first_place bs)

abbrev pub is_colon : ℕ → Bool
is_colon b = b == 58

-- the place of a tile: the first before the first colon of its name, or in the whole name where it has no colon
unfoldable pub place_of : List ℕ → Option (ℕ × ℕ)
place_of name = first_place (before_first is_colon name)
