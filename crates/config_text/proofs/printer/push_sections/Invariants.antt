use Rattle.std.proofs.Common.{◌≡◌, ◌++◌, drop}
use Rattle.std.specs.List.{flat_map}
use Rattle.config_grammar.specs.ConfigPrint.{section_text}
use Rattle.config_text.proofs.printer.push_sections.Given as goal

-- what is written so far and the lines of what is left are the lines of all
abbrev pub invariant-loop-section : goal.invariant-loop-section
invariant-loop-section l = l.text.items ++ flat_map section_text (drop l.section-index l.sections) ≡ l.fn.text.items ++ flat_map section_text l.sections
