-- The words of a line. (Our own.)
use Rattle.std.specs.Prelude.{ℕ, Bool, true, false, List, [], ◌∷◌, filter, ◌==◌, ◌||◌}
use Rattle.texts.specs.Pieces.{Span, pieces, placed}
use Rattle.texts.specs.Lines.{Line}

-- a space or a tab
abbrev pub is_blank : ℕ → Bool
is_blank b = (b == 32) || (b == 9)

abbrev pub has_bytes : Span → Bool
has_bytes s = elim s.text [ [] ↦ false | _ ∷ _ ↦ true ]

-- the words of a line: what stands between blanks, empty pieces left out
abbrev pub words_of : Line → List Span
words_of line = filter has_bytes (placed line.start (pieces is_blank line.text))
