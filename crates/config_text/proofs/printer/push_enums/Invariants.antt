use Rattle.std.proofs.Common.{◌≡◌, ◌++◌, drop}
use Rattle.std.specs.List.{flat_map}
use Rattle.config_grammar.specs.ConfigPrint.{enum_text}
use Rattle.config_text.proofs.printer.push_enums.Given as goal

-- what is written so far and the lines of what is left are the lines of all
abbrev pub invariant-loop-line : goal.invariant-loop-line
invariant-loop-line l = l.text.items ++ flat_map enum_text (drop l.line-index l.enums) ≡ l.fn.text.items ++ flat_map enum_text l.enums
