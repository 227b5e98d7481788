-- What is so of each end, whatever the files hold and whether they tell it: which statuses have which cause, and which
-- files a run may change. (Our own.)
use Rattle.std.specs.Prelude.{◌≡◌, ◌≢◌, ℕ, Result, Ok, Err, ◌⊎◌}
use Rattle.answers.specs.Answers.{Status, Done, Unsafe, NoRoute, Refused, Usage, ReadFault, WriteFault, Memory}
use Rattle.commands.specs.Commands.{Command, Drivers, Check, Analyse, Harden, Run}
use Rattle.design_files.specs.Parsed.{Files}
use Rattle.run_ends.specs.Counts.{Count, Faults, HasRisen, IsGreater}

-- The answer is determined: where the words are of a command that reads files, these tell what they hold.
abbrev pub IsKnown : Result Command ℕ → Type 0 → Type 0
IsKnown (Ok (Drivers name bits)) told = told
IsKnown (Ok (Check inputs)) told = told
IsKnown (Ok (Analyse inputs)) told = told
IsKnown (Ok (Harden inputs hardening)) told = told
IsKnown (Ok (Run blocks)) told = Unit {0}
IsKnown (Err k) told = Unit {0}

-- Only `harden` writes files.
abbrev pub KeepsFiles : Result Command ℕ → Files → Files → Type 0
KeepsFiles (Ok (Drivers name bits)) before now = now ≡ before
KeepsFiles (Ok (Check inputs)) before now = now ≡ before
KeepsFiles (Ok (Analyse inputs)) before now = now ≡ before
KeepsFiles (Ok (Harden inputs hardening)) before now = Unit {0}
KeepsFiles (Ok (Run blocks)) before now = now ≡ before
KeepsFiles (Err k) before now = now ≡ before

-- Usage comes just where the words have no reading, unless a write to the output failed or memory ran out.
abbrev pub UsageOnly : Result Command ℕ → Status → Type 0
UsageOnly (Ok command) status = status ≢ Usage
UsageOnly (Err k) Usage = Unit {0}
UsageOnly (Err k) WriteFault = Unit {0}
UsageOnly (Err k) Memory = Unit {0}
UsageOnly (Err k) ReadFault = ⊥
UsageOnly (Err k) Done = ⊥
UsageOnly (Err k) Unsafe = ⊥
UsageOnly (Err k) NoRoute = ⊥
UsageOnly (Err k) Refused = ⊥

-- A fault is answered only where a count rose: a failed read of a file, a failed write of a file, or a failed write to
-- the output.
abbrev pub HasCause : Faults → Status → Type 0
HasCause faults ReadFault = HasRisen faults.reads
HasCause faults WriteFault = HasRisen faults.writes ⊎ HasRisen faults.prints
HasCause faults Memory = Unit {0}
HasCause faults Done = Unit {0}
HasCause faults Unsafe = Unit {0}
HasCause faults NoRoute = Unit {0}
HasCause faults Refused = Unit {0}
HasCause faults Usage = Unit {0}

-- the statuses that may follow a failed read: want of memory, or a failed write to the output, may come after it
abbrev pub TellsReads : Count → Status → Type 0
TellsReads prints ReadFault = Unit {0}
TellsReads prints WriteFault = HasRisen prints
TellsReads prints Memory = Unit {0}
TellsReads prints Done = ⊥
TellsReads prints Unsafe = ⊥
TellsReads prints NoRoute = ⊥
TellsReads prints Refused = ⊥
TellsReads prints Usage = ⊥

-- the statuses that may follow a failed write
abbrev pub TellsWrites : Status → Type 0
TellsWrites WriteFault = Unit {0}
TellsWrites Memory = Unit {0}
TellsWrites ReadFault = ⊥
TellsWrites Done = ⊥
TellsWrites Unsafe = ⊥
TellsWrites NoRoute = ⊥
TellsWrites Refused = ⊥
TellsWrites Usage = ⊥

-- No fault is swallowed: where a count is greater than before, the status says so, or memory ran out.
pub record NoFaultSwallowed (faults : Faults) (status : Status) : Type 0 where
  pub read : IsGreater faults.reads → TellsReads faults.prints status
  pub written : IsGreater faults.writes → TellsWrites status
  pub printed : IsGreater faults.prints → TellsWrites status
