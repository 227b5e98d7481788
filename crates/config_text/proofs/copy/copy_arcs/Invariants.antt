use Rattle.std.proofs.Common.{◌≡◌, ◌++◌, drop}
use Rattle.config_text.proofs.copy.copy_arcs.Given as goal

-- the copies so far and what is left are all
abbrev pub invariant-loop-arc : goal.invariant-loop-arc
invariant-loop-arc l = l.copied ++ drop l.arc-index l.arcs ≡ l.arcs
