-- The rows of a text whose lines are made of words.
use Rattle.std.specs.Prelude.{ℕ, Bool, true, false, List, [], ◌∷◌, map, filter}
use Rattle.texts.specs.Lines.{Line, lines_of, before_hash}
use Rattle.texts.specs.Words.{words_of}

-- the number of a line, and its words
pub record Row : Type 0 where
  pub number : ℕ
  pub words : List (List ℕ)

abbrev pub row_of : Line → Row
row_of line = record { number = line.number; words = map (λ w. w.text) (words_of line) }

abbrev pub has_words : Row → Bool
has_words row = elim row.words [ [] ↦ false | _ ∷ _ ↦ true ]

-- the rows of a text: its lines, where `#` begins a comment, without those that have no word
abbrev pub rows_of : List ℕ → List Row
rows_of text = filter has_words (map (λ line. row_of (before_hash line)) (lines_of text))
