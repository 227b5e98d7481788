use Rattle.std.proofs.Common.{◌≡◌, ◌++◌, drop}
use Rattle.config_text.proofs.copy.copy_enums.Given as goal

-- the copies so far and what is left are all
abbrev pub invariant-loop-line : goal.invariant-loop-line
invariant-loop-line l = l.copied ++ drop l.line-index l.enums ≡ l.enums
