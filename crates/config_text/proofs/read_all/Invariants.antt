use Rattle.std.proofs.Common.{◌≡◌}
use Rattle.texts.specs.Lines.{lines_of}
use Rattle.config_text.specs.LineByLine.{nothing_read, read_lines}
use Rattle.config_text.specs.Known.{reading_view, KnowsItsTiles}
use Rattle.config_text.proofs.read_all.Given as goal

-- reading the lines that are left is reading all
abbrev pub invariant-loop-line : goal.invariant-loop-line
invariant-loop-line l = record {
  rest : read_lines (reading_view l.reader) l.line-iterator ≡ read_lines nothing_read (lines_of l.fn.bytes);
  known : KnowsItsTiles l.reader.sections;
}
