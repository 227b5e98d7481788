-- Counts of faults. A count is kept in 64 bits and stands still at its last value, so a rise can't always
-- be seen as a greater number.
use Rattle.std.specs.Prelude.{ℕ, ◌+◌, ◌-◌, ◌≤◌, ◌^◌, min}

-- the last value of a count
abbrev pub last_count : ℕ
last_count = 2 ^ 64 - 1

-- the count didn't fall, and it is greater than before or stands at its last value
pub record Rose (before now : ℕ) : Type 0 where
  pub never_falls : before ≤ now
  pub risen : min (before + 1) last_count ≤ now
