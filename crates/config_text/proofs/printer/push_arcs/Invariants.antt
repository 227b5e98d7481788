use Rattle.std.proofs.Common.{◌≡◌, ◌++◌, drop}
use Rattle.std.specs.List.{flat_map}
use Rattle.config_grammar.specs.ConfigPrint.{arc_text}
use Rattle.config_text.proofs.printer.push_arcs.Given as goal

-- what is written so far and the lines of what is left are the lines of all
abbrev pub invariant-loop-arc : goal.invariant-loop-arc
invariant-loop-arc l = l.text.items ++ flat_map arc_text (drop l.arc-index l.arcs) ≡ l.fn.text.items ++ flat_map arc_text l.arcs
