-- How a run may end: with its answer, with a fault of a device, or for want of memory; and what stands in the files and
-- on the output then. (Our own.)
use Rattle.std.specs.Prelude.{◌≡◌, ℕ, List, [], ◌∷◌, ◌++◌, Result, Ok, Err, Some, codes, if◌then◌else◌}
use Rattle.std.specs.Str.{bytes_eq}
use Rattle.words.specs.Appended.{AppendsFront}
use Rattle.texts.specs.Printing.{spaced, line_feed}
use Rattle.answers.specs.Answers.{Status, Usage, ReadFault, WriteFault, Memory}
use Rattle.answers.specs.Texts.{usage_text, read_fault_text}
use Rattle.commands.specs.Commands.{Command}
use Rattle.design_files.specs.Parsed.{Files}
use Rattle.design_answers.specs.Outcomes.{Outcome, Written}
use Rattle.design_answers.specs.RunOutcomes.{IsCommandOutcome}
use Rattle.run_ends.specs.Counts.{HasRisen, Faults}
use Rattle.run_ends.specs.Reads.{MayBeRead}

-- ---- what is answered

abbrev pub usage : ℕ → Outcome
usage k = record { status = Usage; text = usage_text k; written = [] }

-- the outcome of words over the files as they stand when the run begins: usage where the words have no reading, or that
-- of their command
abbrev pub IsAnswered : Files → Result Command ℕ → Outcome → Type 0
IsAnswered files (Err k) outcome = outcome ≡ usage k
IsAnswered files (Ok command) outcome = IsCommandOutcome files command outcome

-- ---- what is written

-- the files with one that is written
abbrev pub with_file : Files → Written → Files
with_file files w = λ name. if bytes_eq name w.name then Some w.bytes else files name

-- the files with some that are written, one after the other
abbrev pub with_files : Files → List Written → Files
with_files files [] = files
with_files files (w ∷ rest) = with_files (with_file files w) rest

-- all files but one are the same
abbrev pub SameBut : List ℕ → Files → Files → Type 0
SameBut name before now = (other : List ℕ) → (other ≡ name → ⊥) → now other ≡ before other

-- the writing of a file was begun: those before it are whole, it holds anything, and all others stay
pub record IsInWriting (files : Files) (written : List Written) (w : Written) (now : Files) : Type 0 where
  pub before : List Written
  pub rest : List Written
  pub order : written ≡ before ++ w ∷ rest
  pub others : SameBut w.name (with_files files before) now

-- `write fault NAME`
abbrev pub write_fault_text : List ℕ → List ℕ
write_fault_text name = codes "write fault" ++ spaced (name ∷ []) ++ line_feed

-- ---- the ends

-- a text that is to be printed, with its status and the files as they stand then
pub data IsToPrint (files : Files) (reading : Result Command ℕ) (faults : Faults) : Status → List ℕ → Files → Type 0 where
  -- the answer: its files are written
  an_answer : (outcome : Outcome) → IsAnswered files reading outcome → IsToPrint files reading faults outcome.status outcome.text (with_files files outcome.written)
  -- a read of a file failed, and none is written
  an_unread_file : {name : List ℕ} → HasRisen faults.reads → MayBeRead files reading name → IsToPrint files reading faults ReadFault (read_fault_text name) files
  -- a write of a file of the answer failed
  an_unwritten_file : (outcome : Outcome) {w : Written} {now : Files} → HasRisen faults.writes → IsAnswered files reading outcome → IsInWriting files outcome.written w now
      → IsToPrint files reading faults WriteFault (write_fault_text w.name) now

-- How a run ends that began with these files and this output, with these counts of faults before it and when it ends: its
-- status, the files then and the output then. A text is printed whole, or a front of it where a write to the output failed
-- or memory ran out; else memory ran out before any text, also while a file was written.
pub data IsEnd (files : Files) (reading : Result Command ℕ) (faults : Faults) (output : List ℕ) : Status → Files → List ℕ → Type 0 where
  prints : {status : Status} {text : List ℕ} {now : Files} → IsToPrint files reading faults status text now → IsEnd files reading faults output status now (output ++ text)
  is_cut_short : {status : Status} {text new : List ℕ} {now : Files} → HasRisen faults.prints → IsToPrint files reading faults status text now → AppendsFront output new text
      → IsEnd files reading faults output WriteFault now new
  wants_memory_in_printing : {status : Status} {text new : List ℕ} {now : Files} → IsToPrint files reading faults status text now → AppendsFront output new text
      → IsEnd files reading faults output Memory now new
  wants_memory : IsEnd files reading faults output Memory files output
  wants_memory_in_writing : (outcome : Outcome) {w : Written} {now : Files} → IsAnswered files reading outcome → IsInWriting files outcome.written w now
      → IsEnd files reading faults output Memory now output

-- A run ends with its answer: with the answer's status, all of its text, and its files.
pub record EndsAnswered (files : Files) (reading : Result Command ℕ) (output : List ℕ) (status : Status) (now : Files) (new : List ℕ) : Type 0 where
  pub outcome : Outcome
  pub answered : IsAnswered files reading outcome
  pub its_status : status ≡ outcome.status
  pub its_text : new ≡ output ++ outcome.text
  pub its_files : now ≡ with_files files outcome.written
