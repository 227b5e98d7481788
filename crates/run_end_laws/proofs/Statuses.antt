-- An answer's status is no fault.
use Rattle.std.proofs.Common.{ℕ, List, sym, subst}
use Rattle.std.specs.Prelude.{Result, Ok, Err}
use Rattle.patterns.specs.Bits.{DeviceBit}
use Rattle.records.specs.Database.{TileDb}
use Rattle.answers.specs.Refusals.{Refusal}
use Rattle.commands.specs.Commands.{Command, Drivers, Check, Analyse, Harden, Run}
use Rattle.records.specs.Limits.{most_database_bytes}
use Rattle.design_files.specs.Parsed.{Files, parsed, read_database}
use Rattle.design_answers.specs.Outcomes.{Outcome, IsOutcome, refuses, checks, is_safe, is_unsafe, stands, hardens, finds_no_route}
use Rattle.design_answers.specs.DriversOutcomes.{drivers_of}
use Rattle.design_answers.specs.RunOutcomes as run
use Rattle.design_answers.specs.RunOutcomes.{IsRunOutcome, IsCommandOutcome}
use Rattle.run_ends.specs.Ends.{IsAnswered}
use Rattle.run_end_laws.specs.Answers.{IsAnswerStatus}

of_database : (bits : List DeviceBit) (r : Result TileDb Refusal) → IsAnswerStatus (drivers_of bits r).status
of_database bits (Ok database) = tt
of_database bits (Err refusal) = tt

module _ (files : Files) where
  of_design : (command : Command) (o : Outcome) → IsOutcome files command o → IsAnswerStatus o.status
  of_design command _ (refuses e h) = tt
  of_design _ _ (checks a) = tt
  of_design _ _ (is_safe a s m) = tt
  of_design _ _ (is_unsafe a b n) = tt
  of_design _ _ (stands a x s b) = tt
  of_design _ _ (hardens a x) = tt
  of_design _ _ (finds_no_route a x) = tt

  of_run : (n : ℕ) (o : Outcome) → IsRunOutcome n o → IsAnswerStatus o.status
  of_run n _ (run.hardens m a) = tt
  of_run n _ (run.finds_no_route m a) = tt
  of_run n _ (run.stands m a) = tt

  of_command : (command : Command) (o : Outcome) → IsCommandOutcome files command o → IsAnswerStatus o.status
  of_command (Drivers name bits) o h =
      subst (λ (p : Outcome). IsAnswerStatus p.status) (sym h) (of_database bits (parsed name most_database_bytes (read_database name) (files name)))
  of_command (Check inputs) o h = of_design (Check inputs) o h
  of_command (Analyse inputs) o h = of_design (Analyse inputs) o h
  of_command (Harden inputs w) o h = of_design (Harden inputs w) o h
  of_command (Run n) o h = of_run n o h

  pub answer_status : (reading : Result Command ℕ) (o : Outcome) → IsAnswered files reading o → IsAnswerStatus o.status
  answer_status (Err k) o h = subst (λ (p : Outcome). IsAnswerStatus p.status) (sym h) tt
  answer_status (Ok command) o h = of_command command o h
