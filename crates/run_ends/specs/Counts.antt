-- The counts of faults of a run, before it and when it ends. (Our own.)
use Rattle.std.specs.Prelude.{ℕ, ◌<◌}
use Rattle.words.specs.Rose.{Rose}

-- the count of faults of one kind
pub record Count : Type 0 where
  pub before : ℕ
  pub now : ℕ

abbrev pub count : ℕ → ℕ → Count
count before now = record { before = before; now = now }

-- a count rose: it is greater than before, or stands at its last value
abbrev pub HasRisen : Count → Type 0
HasRisen c = Rose c.before c.now

-- a count that is greater than before
abbrev pub IsGreater : Count → Type 0
IsGreater c = c.before < c.now

-- the counts of failed reads and of failed writes of files, and of failed writes to the output
pub record Faults : Type 0 where
  pub reads : Count
  pub writes : Count
  pub prints : Count

-- no device failed
pub record NoneRose (faults : Faults) : Type 0 where
  pub reads : HasRisen faults.reads → ⊥
  pub writes : HasRisen faults.writes → ⊥
  pub prints : HasRisen faults.prints → ⊥

-- the counts that files and an output keep, before a run and when it ends
abbrev pub faults_between : {X Y : Type 0} → (X → ℕ) → (X → ℕ) → (Y → ℕ) → X → X → Y → Y → Faults
faults_between reads writes prints files files_now out out_now = record {
  reads = count (reads files) (reads files_now);
  writes = count (writes files) (writes files_now);
  prints = count (prints out) (prints out_now);
}
