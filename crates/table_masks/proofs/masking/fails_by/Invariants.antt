use Rattle.std.proofs.Common.{ℕ, ◌<◌}
use Rattle.table_masks.specs.Masking.{Starts}
use Rattle.table_masks.proofs.masking.fails_by.Given as goal

-- no address so far is such a one
abbrev pub invariant-loop-before : goal.invariant-loop-before
invariant-loop-before l = (m : ℕ) → m < l.before → Starts l.word l.pins l.other m l.after → ⊥
