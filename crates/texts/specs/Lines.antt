-- The lines of a text. (Our own.)
use Rattle.std.specs.Prelude.{ℕ, ◌+◌, ◌-◌, ◌^◌, Bool, min, List, [], ◌∷◌, length, take, slice_index, if◌then◌else◌, ◌==◌}
use Rattle.std.specs.List.{before_first}
use Rattle.texts.specs.Pieces.{Span, pieces, placed}

-- a line: its number from 1, the place of its first byte in the source, and its bytes
pub record Line : Type 0 where
  pub number : ℕ
  pub start : ℕ
  pub text : List ℕ

abbrev pub is_line_feed : ℕ → Bool
is_line_feed b = b == 10

abbrev pub is_hash : ℕ → Bool
is_hash b = b == 35

-- without a carriage return at the end
abbrev pub without_return : List ℕ → List ℕ
without_return piece = if slice_index piece (length piece - 1) == 13 then take (length piece - 1) piece else piece

-- the greatest number of a line: a number that would pass it stands at it
abbrev pub last_number : ℕ
last_number = 2 ^ 32 - 1

-- parts of a source as lines, numbered from a number on
abbrev pub numbered_lines : ℕ → List Span → List Line
numbered_lines number [] = []
numbered_lines number (s ∷ ss) =
    record { number = number; start = s.start; text = without_return s.text } ∷ numbered_lines (min (number + 1) last_number) ss

-- The lines of a text: what stands between line feeds, without a carriage return before the line's end.
abbrev pub lines_of : List ℕ → List Line
lines_of text = numbered_lines 1 (placed 0 (pieces is_line_feed text))

-- the line before its first `#`
abbrev pub before_hash : Line → Line
before_hash line = record { number = line.number; start = line.start; text = before_first is_hash line.text }
