use Rattle.std.proofs.Common.{◌≡◌, ◌++◌, drop}
use Rattle.std.specs.List.{flat_map}
use Rattle.config_grammar.specs.ConfigPrint.{word_text}
use Rattle.config_text.proofs.printer.push_words.Given as goal

-- what is written so far and the lines of what is left are the lines of all
abbrev pub invariant-loop-word : goal.invariant-loop-word
invariant-loop-word l = l.text.items ++ flat_map word_text (drop l.word-index l.words) ≡ l.fn.text.items ++ flat_map word_text l.words
