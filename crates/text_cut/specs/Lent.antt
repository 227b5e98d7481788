-- What lent lines and words stand for.
use Rattle.texts.specs.Pieces.{Span}
use Rattle.texts.specs.Lines.{Line}
use Rattle.text_cut.specs.declared.line.Line.{Line as LentLine}
use Rattle.text_cut.specs.declared.word.Word.{Word as LentWord}

-- the line that a lent line stands for
abbrev pub line_view : LentLine → Line
line_view line = record { number = line.number; start = line.start; text = line.text.now }

-- the part of the source that a lent word stands for
abbrev pub word_view : LentWord → Span
word_view word = record { start = word.start; text = word.text.now }
