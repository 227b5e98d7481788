-- How a text is made of its lines, and a line of its words. (Our own.)
use Rattle.std.specs.Prelude.{◌≡◌, ℕ, ◌+◌, ◌-◌, ◌<◌, ◌≤◌, Bool, true, false, not, min, List, [], ◌∷◌, ◌++◌, length, take, slice_index, slice_range, if◌then◌else◌, ◌==◌}
use Rattle.std.specs.List.{list_all}
use Rattle.words.specs.Members.{In}
use Rattle.texts.specs.Pieces.{Span}
use Rattle.texts.specs.Lines.{Line, is_line_feed, is_hash, last_number}
use Rattle.texts.specs.Words.{is_blank}

-- the bytes are the slice of a source that begins at a place
pub record StandsAt (source : List ℕ) (start : ℕ) (bytes : List ℕ) : Type 0 where
  pub within : start + length bytes ≤ length source
  pub same : slice_range source start (start + length bytes) ≡ bytes

-- each part ends before every later part begins, with a byte between them at least
abbrev pub InOrder : List Span → Type 0
InOrder [] = Unit {0}
InOrder (part ∷ later) = ((other : Span) → In later other → part.start + length part.text < other.start) × InOrder later

-- a line as a part of its source
abbrev pub span_of : Line → Span
span_of line = record { start = line.start; text = line.text }

abbrev pub no_line_feed : List ℕ → Bool
no_line_feed bytes = list_all (λ b. not (is_line_feed b)) bytes

abbrev pub no_blank : List ℕ → Bool
no_blank bytes = list_all (λ b. not (is_blank b)) bytes

abbrev pub ends_in_return : List ℕ → Bool
ends_in_return bytes = slice_index bytes (length bytes - 1) == 13

-- A text begins with a line: the line's bytes, a carriage return or none, a line feed or none, and what stands after.
-- Only the last line may have no line feed, and a carriage return before the line's end isn't one of its bytes.
pub record BeginsWithLine (text line after : List ℕ) : Type 0 where
  pub has_return : Bool
  pub has_feed : Bool
  pub whole : text ≡ line ++ (if has_return then 13 ∷ [] else []) ++ (if has_feed then 10 ∷ [] else []) ++ after
  pub not_empty : 0 < length text
  pub one_line : no_line_feed line ≡ true
  pub dropped : has_return ≡ false → ends_in_return line ≡ false
  pub last : has_feed ≡ false → after ≡ []

-- a text that begins at a place is these lines, numbered from a number on
abbrev pub IsTextOf : ℕ → ℕ → List Line → List ℕ → Type 0
IsTextOf number start [] text = text ≡ []
IsTextOf number start (line ∷ lines) text =
    (after : List ℕ) × BeginsWithLine text line.text after × (line.number ≡ number) × (line.start ≡ start)
    × IsTextOf (min (number + 1) last_number) (start + (length text - length after)) lines after

-- a text begins with blanks or none and a word, and behind the word stands a blank or nothing
pub record BeginsWithWord (text blanks word after : List ℕ) : Type 0 where
  pub whole : text ≡ blanks ++ word ++ after
  pub all_blank : list_all is_blank blanks ≡ true
  pub has_bytes : 0 < length word
  pub one_word : no_blank word ≡ true
  pub ends : list_all is_blank (take 1 after) ≡ true

-- a text that begins at a place is these words, with blanks between them, and maybe in front and behind
abbrev pub IsLineOf : ℕ → List Span → List ℕ → Type 0
IsLineOf start [] text = list_all is_blank text ≡ true
IsLineOf start (word ∷ words) text =
    (blanks after : List ℕ) × BeginsWithWord text blanks word.text after × (word.start ≡ start + length blanks)
    × IsLineOf (word.start + length word.text) words after

-- the text before the first `#` of a line's text
pub record IsBeforeHash (text before : List ℕ) : Type 0 where
  pub after : List ℕ
  pub whole : text ≡ before ++ after
  pub no_hash : list_all (λ b. not (is_hash b)) before ≡ true
  pub ends : list_all is_hash (take 1 after) ≡ true
