-- What laws on ends speak of.
use Rattle.std.specs.Prelude.{◌≡◌, ℕ, List, ◌++◌, None, Result, Ok}
use Rattle.words.specs.Members.{In}
use Rattle.records.specs.Grid.{Grid}
use Rattle.answers.specs.Answers.{Status, Done, Unsafe, NoRoute, Refused, Usage, ReadFault, WriteFault, Memory}
use Rattle.commands.specs.Commands.{Command, Harden, Hardening, Inputs}
use Rattle.design_files.specs.Names.{database_name, types_of}
use Rattle.design_files.specs.Parsed.{Files}
use Rattle.design_answers.specs.Outcomes.{Outcome, Written}
use Rattle.run_ends.specs.Counts.{Faults, count}
use Rattle.run_ends.specs.Ends.{IsAnswered, IsInWriting, with_files, write_fault_text}

-- the words aren't those of `harden`
abbrev pub IsOther : Result Command ℕ → Type 0
IsOther reading = (inputs : Inputs) (h : Hardening) → reading ≡ Ok (Harden inputs h) → ⊥

-- the statuses of answers
abbrev pub IsAnswerStatus : Status → Type 0
IsAnswerStatus Done = Unit {0}
IsAnswerStatus Unsafe = Unit {0}
IsAnswerStatus NoRoute = Unit {0}
IsAnswerStatus Refused = Unit {0}
IsAnswerStatus Usage = Unit {0}
IsAnswerStatus ReadFault = ⊥
IsAnswerStatus WriteFault = ⊥
IsAnswerStatus Memory = ⊥

-- the files are those of the answer
pub record HoldsAnswer (files : Files) (reading : Result Command ℕ) (now : Files) : Type 0 where
  pub outcome : Outcome
  pub answered : IsAnswered files reading outcome
  pub its_files : now ≡ with_files files outcome.written

-- `write fault NAME` stands on the output, of a file of the answer whose writing was begun
pub record TellsUnwritten (files : Files) (reading : Result Command ℕ) (output : List ℕ) (now : Files) (new : List ℕ) : Type 0 where
  pub outcome : Outcome
  pub file : Written
  pub answered : IsAnswered files reading outcome
  pub in_writing : IsInWriting files outcome.written file now
  pub told : new ≡ output ++ write_fault_text file.name

-- the name is that of the database of a tile type of the grid
pub record IsDatabaseOf (family : List ℕ) (grid : Grid) (name : List ℕ) : Type 0 where
  pub kind : List ℕ
  pub listed : In (types_of grid) kind
  pub its_name : name ≡ database_name family kind

-- no count of faults rose; or one did
abbrev pub no_faults : Faults
no_faults = record { reads = count 0 0; writes = count 0 0; prints = count 0 0 }

abbrev pub a_failed_read : Faults
a_failed_read = record { reads = count 0 1; writes = count 0 0; prints = count 0 0 }

abbrev pub a_failed_print : Faults
a_failed_print = record { reads = count 0 0; writes = count 0 0; prints = count 0 1 }

-- there are no files
abbrev pub empty : Files
empty name = None
