-- Only `harden` writes files.
use Rattle.std.proofs.Common.{◌≡◌, ℕ, List, [], ◌∷◌, ◌++◌, refl, sym, ap, ◌∙◌}
use Rattle.std.specs.Prelude.{Result, Ok, Err}
use Rattle.patterns.specs.Bits.{DeviceBit}
use Rattle.records.specs.Database.{TileDb}
use Rattle.answers.specs.Answers.{Status}
use Rattle.answers.specs.Refusals.{Refusal}
use Rattle.commands.specs.Commands.{Command, Drivers, Check, Analyse, Harden, Run, Inputs}
use Rattle.records.specs.Limits.{most_database_bytes}
use Rattle.design_files.specs.Parsed.{Files, parsed, read_database}
use Rattle.design_answers.specs.Outcomes.{Outcome, Written, IsOutcome, refuses, checks, is_safe, is_unsafe}
use Rattle.design_answers.specs.DriversOutcomes.{drivers_of}
use Rattle.design_answers.specs.RunOutcomes as run
use Rattle.design_answers.specs.RunOutcomes.{IsRunOutcome, IsCommandOutcome}
use Rattle.run_ends.specs.Counts.{Faults}
use Rattle.run_ends.specs.Ends.{IsAnswered, with_files, IsInWriting, IsToPrint, an_answer, an_unread_file, an_unwritten_file, IsEnd, prints, is_cut_short, wants_memory_in_printing, wants_memory, wants_memory_in_writing}
use Rattle.run_end_laws.specs.Answers.{IsOther}

of_database : (bits : List DeviceBit) (r : Result TileDb Refusal) → (drivers_of bits r).written ≡ []
of_database bits (Ok database) = refl
of_database bits (Err refusal) = refl

module _ (files : Files) where
  of_drivers : (name : List ℕ) (bits : List DeviceBit) (o : Outcome) → IsCommandOutcome files (Drivers name bits) o → o.written ≡ []
  of_drivers name bits o h = ap (λ (p : Outcome). p.written) h ∙ of_database bits (parsed name most_database_bytes (read_database name) (files name))

  of_check : (inputs : Inputs) (o : Outcome) → IsOutcome files (Check inputs) o → o.written ≡ []
  of_check inputs _ (refuses e h) = refl
  of_check inputs _ (checks a) = refl

  of_analyse : (inputs : Inputs) (o : Outcome) → IsOutcome files (Analyse inputs) o → o.written ≡ []
  of_analyse inputs _ (refuses e h) = refl
  of_analyse inputs _ (is_safe a s m) = refl
  of_analyse inputs _ (is_unsafe a b n) = refl

  of_run : (n : ℕ) (o : Outcome) → IsRunOutcome n o → o.written ≡ []
  of_run n _ (run.hardens m a) = refl
  of_run n _ (run.finds_no_route m a) = refl
  of_run n _ (run.stands m a) = refl

  of_command : (command : Command) (o : Outcome) → IsOther (Ok command) → IsCommandOutcome files command o → o.written ≡ []
  of_command (Drivers name bits) o other h = of_drivers name bits o h
  of_command (Check inputs) o other h = of_check inputs o h
  of_command (Analyse inputs) o other h = of_analyse inputs o h
  of_command (Harden inputs w) o other h = absurd (other inputs w refl)
  of_command (Run n) o other h = of_run n o h

  -- other answers write no file
  pub writes_none : (reading : Result Command ℕ) (o : Outcome) → IsOther reading → IsAnswered files reading o → o.written ≡ []
  writes_none (Err k) o other h = ap (λ (p : Outcome). p.written) h
  writes_none (Ok command) o other h = of_command command o other h

  -- so none is in writing
  never_in_writing : (reading : Result Command ℕ) (o : Outcome) (w : Written) (now : Files) → IsOther reading → IsAnswered files reading o → IsInWriting files o.written w now → ⊥
  never_in_writing reading o w now other h i = no_more i.before (sym i.order ∙ writes_none reading o other h)
    where
      no_more : (before : List Written) → before ++ w ∷ i.rest ≡ [] → ⊥
      no_more [] e = (let wrong : ⊥ = cc in wrong)
      no_more (b ∷ bs) e = (let wrong : ⊥ = cc in wrong)

  module _ (reading : Result Command ℕ) (faults : Faults) (other : IsOther reading) where
    printed_untouched : (status : Status) (text : List ℕ) (now : Files) → IsToPrint files reading faults status text now → now ≡ files
    printed_untouched _ _ _ (an_answer outcome h) = ap (with_files files) (writes_none reading outcome other h)
    printed_untouched _ _ _ (an_unread_file rose m) = refl
    printed_untouched _ _ now (an_unwritten_file outcome {w} rose h i) = absurd (never_in_writing reading outcome w now other h i)

    -- and each end leaves the files as they were
    pub untouched : (output : List ℕ) (status : Status) (now : Files) (new : List ℕ) → IsEnd files reading faults output status now new → now ≡ files
    untouched output _ now _ (prints {status} {text} t) = printed_untouched status text now t
    untouched output _ now _ (is_cut_short {status} {text} rose t a) = printed_untouched status text now t
    untouched output _ now _ (wants_memory_in_printing {status} {text} t a) = printed_untouched status text now t
    untouched output _ _ _ wants_memory = refl
    untouched output _ now _ (wants_memory_in_writing outcome {w} h i) = absurd (never_in_writing reading outcome w now other h i)
