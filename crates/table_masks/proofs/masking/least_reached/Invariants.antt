use Rattle.std.proofs.Common.{ℕ, ◌<◌}
use Rattle.table_masks.specs.Masking.{FailsIn}
use Rattle.table_masks.proofs.masking.least_reached.Given as goal

-- no address so far is reached
abbrev pub invariant-loop-after : goal.invariant-loop-after
invariant-loop-after l = (m : ℕ) → m < l.after → FailsIn l.word l.pins l.own m → ⊥
