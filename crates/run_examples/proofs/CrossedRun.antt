-- The run of `harden` over the files of the crossed toggle, and how it ends.
use Rattle.std.proofs.Common.{◌≡◌, ◌≢◌, ℕ, List, [], ◌∷◌, ◌++◌, refl, sym, subst, ◌∙◌, arith}
use Rattle.std.specs.Prelude.{Ok}
use Rattle.std.specs.Fmt.{digits}
use Rattle.records.specs.Ripping.{RipUnsafe}
use Rattle.fabric.specs.Graph.{Graph}
use Rattle.fabric_laws.specs.PlainGraph.{graph_of}
use Rattle.fabric_laws.proofs.Members.{all_from}
use Rattle.mini.specs.MiniA.{mini_a}
use Rattle.mini.specs.ToggleCells.{toggle_cells}
use Rattle.mini.specs.Toggle.{crossed, toggle}
use Rattle.answers.specs.Answers.{Status, Done, Memory}
use Rattle.commands.specs.Commands.{Harden}
use Rattle.commands.specs.Readings.{all_commands, reading_of}
use Rattle.attempts.specs.Jobs.{Job}
use Rattle.attempts.specs.Attempts.{AttemptComplete}
use Rattle.design_files.specs.Parsed.{Files}
use Rattle.design_answers.specs.Outcomes.{Outcome, IsOutcome, hardened, hardens, job_of}
use Rattle.check_laws.proofs.OneOutcome.{one_of}
use Rattle.headline_laws.proofs.Accepted.{accepted_sound_job}
use Rattle.text_laws.specs.SameButLines.{has_lines, EachHasLines}
use Rattle.text_laws.proofs.NoFaults.{printed_same, printed_lines}
use Rattle.line_laws.specs.Plain.{plain_config, plain_job}
use Rattle.route_examples.specs.Crossed.{with_cells, crossed_job}
use Rattle.route_examples.proofs.Mended.{answered}
use Rattle.run_ends.specs.Counts.{Faults, NoneRose}
use Rattle.run_ends.specs.Ends.{IsAnswered, with_files, an_answer, IsEnd, prints}
use Rattle.hardening_examples.specs.CrossedDesign.{by_default}
use Rattle.hardening_examples.specs.CrossedFiles.{crossed_files, crossed_inputs}
use Rattle.hardening_examples.proofs.Written.{crossed_formed}
use Rattle.hardening_examples.proofs.AcceptedFiles.{crossed_accepted, accepted_text, accepted_device, accepted_side}
use Rattle.run_laws.specs.Runs.{IsHardened}
use Rattle.run_laws.proofs.Hardened.{run_hardened}
use Rattle.run_examples.specs.CrossedRun.{crossed_words, crossed_outcome}
use Rattle.run_examples.proofs.Alike.{plain_same, outcome_same, IsRoutedAlike, job_alike}
use Rattle.run_examples.proofs.Ends.{ends_with}

abbrev g : Graph
g = graph_of mini_a

-- what the router is given: the text as it is read
abbrev read_job : Job
read_job = job_of crossed_accepted.0 g (toggle_cells g) by_default

-- ---- it is the crossed toggle but for the numbers of lines

each_has_lines : EachHasLines crossed
each_has_lines t i = all_from has_lines crossed.tiles refl t i

config_alike : plain_config crossed_accepted.0.config ≡ plain_config crossed
config_alike =
    plain_same crossed crossed_accepted.0.config (printed_same crossed crossed_accepted.0.config crossed_formed accepted_text) each_has_lines
    (printed_lines crossed crossed_accepted.0.config crossed_formed accepted_text)

jobs_alike : plain_job read_job ≡ plain_job (crossed_job g)
jobs_alike = λ i. record { device = accepted_device i; design = record { graph = g; config = config_alike i; cells = toggle_cells g; side = accepted_side i }; rounds = 32; rip = RipUnsafe }

routed : IsRoutedAlike read_job (AttemptComplete ∷ []) (with_cells g toggle) 8
routed =
    job_alike read_job (crossed_job g) (accepted_sound_job crossed_files crossed_inputs by_default crossed_accepted.0 g (toggle_cells g) crossed_accepted.1) (omega arith) crossed_accepted.1.graph jobs_alike
    (AttemptComplete ∷ []) (with_cells g toggle) 8 answered

-- ---- the outcome

pub words_are : reading_of all_commands crossed_words ≡ Ok (Harden crossed_inputs by_default)
words_are = refl

is_told : hardened g by_default (AttemptComplete ∷ []) (with_cells g toggle) 8 ≡ crossed_outcome
unfolding digits
is_told = refl

pub the_outcome : IsOutcome crossed_files (Harden crossed_inputs by_default) crossed_outcome
the_outcome =
    subst (IsOutcome crossed_files (Harden crossed_inputs by_default)) (outcome_same g by_default (AttemptComplete ∷ []) 8 (with_cells g toggle) routed.layout routed.same ∙ is_told)
    (hardens crossed_accepted.1 routed.answered)

-- ---- the end

pub ends_done : (faults : Faults) (output : List ℕ)
    → IsEnd crossed_files (reading_of all_commands crossed_words) faults output Done (with_files crossed_files crossed_outcome.written) (output ++ crossed_outcome.text)
ends_done faults output = subst (λ r. IsEnd crossed_files r faults output Done (with_files crossed_files crossed_outcome.written) (output ++ crossed_outcome.text)) (sym words_are)
    (prints (an_answer crossed_outcome the_outcome))

pub ends_hardened : (faults : Faults) (output : List ℕ) → IsHardened crossed_files crossed_inputs by_default output (with_files crossed_files crossed_outcome.written) (output ++ crossed_outcome.text)
ends_hardened faults output =
    run_hardened crossed_files all_commands crossed_words crossed_inputs by_default words_are faults output (with_files crossed_files crossed_outcome.written) (output ++ crossed_outcome.text)
    (ends_done faults output)

-- without a fault, and with memory enough, it ends in no other way
its_one : (p : Outcome) → IsAnswered crossed_files (Ok (Harden crossed_inputs by_default)) p → p ≡ crossed_outcome
its_one p a = one_of crossed_files (Harden crossed_inputs by_default) p crossed_outcome a the_outcome

pub ends_so : (faults : Faults) (output : List ℕ) (status : Status) (now : Files) (new : List ℕ) → NoneRose faults → status ≢ Memory
    → IsEnd crossed_files (reading_of all_commands crossed_words) faults output status now new → (status ≡ Done) × ((now ≡ with_files crossed_files crossed_outcome.written) × (new ≡ output ++ crossed_outcome.text))
ends_so faults output status now new sound enough end =
    ends_with crossed_files (Ok (Harden crossed_inputs by_default)) crossed_outcome its_one faults sound output status now new
    (subst (λ r. IsEnd crossed_files r faults output status now new) words_are end) enough
