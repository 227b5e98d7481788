use Rattle.std.proofs.Common.{◌≡◌, ◌++◌, drop}
use Rattle.config_text.proofs.copy.copy_heads.Given as goal

-- the copies so far and what is left are all
abbrev pub invariant-loop-head : goal.invariant-loop-head
invariant-loop-head l = l.copied ++ drop l.head-index l.heads ≡ l.heads
