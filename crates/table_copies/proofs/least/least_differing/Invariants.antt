use Rattle.std.proofs.Common.{ℕ, ◌<◌}
use Rattle.table_copies.specs.Digits.{digits_of}
use Rattle.table_copies.specs.Outputs.{DifferAt}
use Rattle.table_copies.proofs.least.least_differing.Given as goal

-- they differ at none so far
abbrev pub invariant-loop-number : goal.invariant-loop-number
invariant-loop-number l = (m : ℕ) → m < l.number → DifferAt (digits_of l.count m) l.tables → ⊥
