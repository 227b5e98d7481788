use Rattle.std.proofs.Common.{◌≡◌, ◌++◌, drop}
use Rattle.std.specs.List.{flat_map}
use Rattle.config_grammar.specs.ConfigPrint.{head_text}
use Rattle.config_text.proofs.printer.push_heads.Given as goal

-- what is written so far and the lines of what is left are the lines of all
abbrev pub invariant-loop-head : goal.invariant-loop-head
invariant-loop-head l = l.text.items ++ flat_map head_text (drop l.head-index l.heads) ≡ l.fn.text.items ++ flat_map head_text l.heads
