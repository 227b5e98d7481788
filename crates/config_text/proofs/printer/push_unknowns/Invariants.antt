use Rattle.std.proofs.Common.{◌≡◌, ◌++◌, drop}
use Rattle.std.specs.List.{flat_map}
use Rattle.config_grammar.specs.ConfigPrint.{unknown_text}
use Rattle.config_text.proofs.printer.push_unknowns.Given as goal

-- what is written so far and the lines of what is left are the lines of all
abbrev pub invariant-loop-line : goal.invariant-loop-line
invariant-loop-line l = l.text.items ++ flat_map unknown_text (drop l.line-index l.unknowns) ≡ l.fn.text.items ++ flat_map unknown_text l.unknowns
