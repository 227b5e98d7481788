-- What stands where a run of `harden` is done, and which files no answer writes. (Our own.)
use Rattle.std.specs.Prelude.{◌≡◌, ◌≢◌, ℕ, List, ◌++◌, Result, Some}
use Rattle.words.specs.Members.{In}
use Rattle.commands.specs.Commands.{Inputs, Hardening, Command, Harden}
use Rattle.design_files.specs.Parsed.{Files}
use Rattle.design_answers.specs.Outcomes.{Outcome, Written, IsOutcome}
use Rattle.run_ends.specs.Ends.{IsAnswered}
use Rattle.written_laws.specs.Written.{WritesHardened}
use Rattle.lasting_laws.specs.Lasting.{IsLasting}

-- no answer to the words writes a file of this name
abbrev pub IsWrittenByNone : Files → Result Command ℕ → List ℕ → Type 0
IsWrittenByNone files reading name = (outcome : Outcome) → IsAnswered files reading outcome → (w : Written) → In outcome.written w → w.name ≡ name → ⊥

-- The run wrote what hardens what was read. Its inputs are accepted as a design; under the two out names stand a text and a side
-- file whose bytes harden that design, at any moment; all other files stand as they stood; and the report on it, and nothing
-- else, is appended to the output.
pub record IsHardened (files : Files) (inputs : Inputs) (h : Hardening) (output : List ℕ) (now : Files) (new : List ℕ) : Type 0 where
  pub outcome : Outcome
  pub answered : IsOutcome files (Harden inputs h) outcome
  pub writes : WritesHardened files inputs h outcome
  pub lasts : IsLasting writes
  pub text_there : now h.out ≡ Some writes.text
  pub side_there : now h.side_out ≡ Some writes.side
  pub others : (name : List ℕ) → name ≢ h.out → name ≢ h.side_out → now name ≡ files name
  pub report : new ≡ output ++ outcome.text
