-- Where no count of faults rose and memory didn't run out, a run ends with its answer.
use Rattle.std.proofs.Common.{◌≡◌, ◌≢◌, ℕ, List, ◌++◌, refl}
use Rattle.std.specs.Prelude.{Result}
use Rattle.answers.specs.Answers.{Status, Memory}
use Rattle.commands.specs.Commands.{Command}
use Rattle.design_files.specs.Parsed.{Files}
use Rattle.run_ends.specs.Counts.{Faults, NoneRose}
use Rattle.run_ends.specs.Ends.{IsToPrint, an_answer, an_unread_file, an_unwritten_file, IsEnd, prints, is_cut_short, wants_memory_in_printing, wants_memory, wants_memory_in_writing, EndsAnswered}

module _ (files : Files) (reading : Result Command ℕ) (faults : Faults) (output : List ℕ) (none : NoneRose faults) where
  is_answer : (status : Status) (text : List ℕ) (now : Files) → IsToPrint files reading faults status text now → EndsAnswered files reading output status now (output ++ text)
  is_answer _ _ _ (an_answer outcome a) = record { outcome = outcome; answered = a; its_status = refl; its_text = refl; its_files = refl }
  is_answer _ _ _ (an_unread_file rose m) = absurd (none.reads rose)
  is_answer _ _ _ (an_unwritten_file outcome rose a w) = absurd (none.writes rose)

  pub answered : (status : Status) (now : Files) (new : List ℕ) → status ≢ Memory → IsEnd files reading faults output status now new → EndsAnswered files reading output status now new
  answered status now _ m (prints {text = text} t) = is_answer status text now t
  answered _ now new m (is_cut_short rose t a) = absurd (none.prints rose)
  answered _ now new m (wants_memory_in_printing t a) = absurd (m refl)
  answered _ _ _ m wants_memory = absurd (m refl)
  answered _ now _ m (wants_memory_in_writing outcome a w) = absurd (m refl)
