use Rattle.std.proofs.Common.{◌≡◌, ◌++◌, drop}
use Rattle.config_text.proofs.copy.copy_sections.Given as goal

-- the copies so far and what is left are all
abbrev pub invariant-loop-section : goal.invariant-loop-section
invariant-loop-section l = l.copied ++ drop l.section-index l.sections ≡ l.sections
