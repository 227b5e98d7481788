-- The lines of a text configuration, `.config`, each by itself. (After Project Trellis; that some heads are kept as
-- text, and that a line with a stray carriage return is bad, is our own.)
use Rattle.std.specs.Prelude.{ℕ, Bool, true, false, not, List, [], ◌∷◌, drop, map, reverse, codes, Option, Some, None, option_map, if◌then◌else◌, ◌==◌, ◌&&◌, ◌||◌}
use Rattle.std.specs.List.{list_any, list_all, prefix_len}
use Rattle.std.specs.Option.{option_and_then}
use Rattle.std.specs.Str.{bytes_eq}
use Rattle.patterns.specs.Bits.{PatternBit}
use Rattle.texts.specs.Lines.{Line}
use Rattle.texts.specs.Names.{is_name}
use Rattle.texts.specs.PatternBits.{pattern_bit_of}
use Rattle.texts.specs.Words.{is_blank, words_of}

-- what a line says
pub data ConfigLine : Type 0 where
  -- `.device NAME`
  DeviceLine : List ℕ → ConfigLine
  -- `.comment TEXT`, `.sysconfig KEY VALUE` or `.variant NAME`, from its first word to the end of its last
  HeadLine : List ℕ → ConfigLine
  -- `.tile NAME`
  TileLine : List ℕ → ConfigLine
  -- `arc: SINK SOURCE`
  ArcOf : List ℕ → List ℕ → ConfigLine
  -- `word: NAME BITS`, the lowest bit first here and the highest first in the line
  WordOf : List ℕ → List Bool → ConfigLine
  -- `enum: NAME VALUE`
  EnumOf : List ℕ → List ℕ → ConfigLine
  -- `unknown: F<f>B<b>`
  UnknownOf : ℕ → ℕ → ConfigLine
  -- `.tile_group` or `.bram_init`, whatever follows: blocks that aren't modelled
  OutsideLine : ConfigLine

-- what stands behind blanks, and without blanks at the end
abbrev pub behind_blanks : List ℕ → List ℕ
behind_blanks text = drop (prefix_len is_blank text) text

abbrev pub without_blanks : List ℕ → List ℕ
without_blanks text = reverse (behind_blanks (reverse (behind_blanks text)))

abbrev pub if_name : List ℕ → ConfigLine → Option ConfigLine
if_name name line = if is_name name then Some line else None

abbrev pub if_names : List ℕ → List ℕ → ConfigLine → Option ConfigLine
if_names one other line = if is_name one && is_name other then Some line else None

abbrev pub is_bit_digit : ℕ → Bool
is_bit_digit b = (b == 48) || (b == 49)

-- the bits of digits, the last digit first
abbrev pub bits_of_digits : List ℕ → List Bool
bits_of_digits digits = map (λ b. b == 49) (reverse digits)

abbrev pub word_line : List ℕ → List ℕ → Option ConfigLine
word_line name digits = if is_name name && list_all is_bit_digit digits then Some (WordOf name (bits_of_digits digits)) else None

abbrev pub unknown_at : PatternBit → Option ConfigLine
unknown_at p = if p.set then Some (UnknownOf p.frame p.bit) else None

-- what the words of a line say, where `text` is the line without blanks around it
abbrev pub says_one : List ℕ → List ℕ → Option ConfigLine
says_one text first = if bytes_eq first (codes ".comment") then Some (HeadLine text) else None

abbrev pub says_two : List ℕ → List ℕ → List ℕ → Option ConfigLine
says_two text first second =
    if bytes_eq first (codes ".device") then if_name second (DeviceLine second)
    else if bytes_eq first (codes ".variant") then if_name second (HeadLine text)
    else if bytes_eq first (codes ".tile") then if_name second (TileLine second)
    else if bytes_eq first (codes "unknown:") then option_and_then unknown_at (pattern_bit_of second)
    else says_one text first

abbrev pub says_three : List ℕ → List ℕ → List ℕ → List ℕ → Option ConfigLine
says_three text first second third =
    if bytes_eq first (codes ".sysconfig") then Some (HeadLine text)
    else if bytes_eq first (codes "arc:") then if_names second third (ArcOf second third)
    else if bytes_eq first (codes "word:") then word_line second third
    else if bytes_eq first (codes "enum:") then if_names second third (EnumOf second third)
    else says_one text first

abbrev pub says_more : List ℕ → List ℕ → Option ConfigLine
says_more text first = says_one text first

abbrev pub is_outside : List ℕ → Bool
is_outside first = bytes_eq first (codes ".tile_group") || bytes_eq first (codes ".bram_init")

abbrev pub says_words : List ℕ → List (List ℕ) → Option ConfigLine
says_words text [] = None
says_words text (first ∷ []) = says_one text first
says_words text (first ∷ second ∷ []) = says_two text first second
says_words text (first ∷ second ∷ third ∷ []) = says_three text first second third
says_words text (first ∷ second ∷ third ∷ fourth ∷ rest) = says_more text first

abbrev pub begins_outside : List (List ℕ) → Bool
begins_outside [] = false
begins_outside (first ∷ rest) = is_outside first

abbrev pub is_return : ℕ → Bool
is_return b = b == 13

-- What a line says, where it says anything: one that still holds a carriage return says nothing.
abbrev pub says : List ℕ → List (List ℕ) → Option ConfigLine
says text words =
    if list_any is_return text then None
    else if begins_outside words then Some OutsideLine
    else says_words (without_blanks text) words

-- a line that is passed over: blank, or with `#` as its first byte that isn't blank
abbrev pub begins_with_hash : List ℕ → Bool
begins_with_hash [] = false
begins_with_hash (b ∷ bs) = b == 35

abbrev pub is_skipped : List (List ℕ) → Bool
is_skipped [] = true
is_skipped (first ∷ rest) = begins_with_hash first

abbrev pub words_in : Line → List (List ℕ)
words_in line = map (λ w. w.text) (words_of line)
