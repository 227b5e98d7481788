-- A run of `harden` that is done wrote what hardens what was read.
use Rattle.std.proofs.Common.{◌≡◌, ◌≢◌, ℕ, List, ◌++◌, Some, refl, ap, subst, ◌∙◌, if◌then◌else◌}
use Rattle.std.specs.Prelude.{Ok}
use Rattle.std.proofs.lemmas.Slice.Eq.{bytes_eq-Decides}
use Rattle.answers.specs.Answers.{Status, Done}
use Rattle.commands.specs.Commands.{Inputs, Hardening, Harden}
use Rattle.commands.specs.Readings.{reading_of}
use Rattle.design_files.specs.Parsed.{Files}
use Rattle.design_answers.specs.Outcomes.{Outcome, Written, file, IsOutcome}
use Rattle.run_ends.specs.Counts.{Faults}
use Rattle.run_ends.specs.Ends.{with_file, with_files, IsToPrint, an_answer, an_unread_file, an_unwritten_file, IsEnd, prints, is_cut_short, wants_memory_in_printing, wants_memory, wants_memory_in_writing}
use Rattle.command_laws.proofs.Harden.{harden_fits}
use Rattle.lasting_laws.proofs.Written.{outcome_lasts}
use Rattle.run_laws.specs.Runs.{IsHardened}
use Rattle.run_laws.proofs.Files.{another_file}

-- a file stands under its name
own_file : (files : Files) (w : Written) → with_file files w w.name ≡ Some w.bytes
own_file files w = ap (λ b. if b then Some w.bytes else files w.name) ((bytes_eq-Decides w.name w.name).1 refl)

module _ (files : Files) (inputs : Inputs) (h : Hardening) (apart : h.out ≢ h.side_out) (output : List ℕ) where
  -- what stands after the two files of an answer
  answer_hardened : (outcome : Outcome) → IsOutcome files (Harden inputs h) outcome → outcome.status ≡ Done → IsHardened files inputs h output (with_files files outcome.written) (output ++ outcome.text)
  answer_hardened outcome a done =
      let w = outcome_lasts files inputs h outcome a done in
      let first = file h.out w.0.text in
      let second = file h.side_out w.0.side in
      let now : with_files files outcome.written ≡ with_file (with_file files first) second = ap (with_files files) w.0.written in
      record {
        outcome = outcome;
        answered = a;
        writes = w.0;
        lasts = w.1;
        text_there = ap (λ (f : Files). f h.out) now ∙ another_file (with_file files first) second h.out apart ∙ own_file files first;
        side_there = ap (λ (f : Files). f h.side_out) now ∙ own_file (with_file files first) second;
        others = λ name x y. ap (λ (f : Files). f name) now ∙ another_file (with_file files first) second name y ∙ another_file files first name x;
        report = refl;
      }

  module _ (faults : Faults) where
    to_print : (status : Status) (text : List ℕ) (now : Files) → IsToPrint files (Ok (Harden inputs h)) faults status text now → status ≡ Done → IsHardened files inputs h output now (output ++ text)
    to_print _ _ _ (an_answer outcome a) done = answer_hardened outcome a done
    to_print _ _ _ (an_unread_file r m) done = absurd (let no : ⊥ = cc in no)
    to_print _ _ now (an_unwritten_file outcome {w} r a i) done = absurd (let no : ⊥ = cc in no)

    pub ends : (status : Status) (now : Files) (new : List ℕ) → IsEnd files (Ok (Harden inputs h)) faults output status now new → status ≡ Done → IsHardened files inputs h output now new
    ends _ now _ (prints {status} {text} t) done = to_print status text now t done
    ends _ now _ (is_cut_short {status} {text} r t a) done = absurd (let no : ⊥ = cc in no)
    ends _ now _ (wants_memory_in_printing {status} {text} t a) done = absurd (let no : ⊥ = cc in no)
    ends _ _ _ wants_memory done = absurd (let no : ⊥ = cc in no)
    ends _ now _ (wants_memory_in_writing outcome {w} a i) done = absurd (let no : ⊥ = cc in no)

pub run_hardened : (files : Files) (known words : List (List ℕ)) (inputs : Inputs) (h : Hardening) → reading_of known words ≡ Ok (Harden inputs h)
    → (faults : Faults) (output : List ℕ) (now : Files) (new : List ℕ) → IsEnd files (reading_of known words) faults output Done now new → IsHardened files inputs h output now new
run_hardened files known words inputs h read faults output now new end =
    ends files inputs h (harden_fits known words inputs h read).text_and_side output faults Done now new (subst (λ r. IsEnd files r faults output Done now new) read end) refl
