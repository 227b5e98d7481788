-- Ends that are refused: which text and which files stand after a failed write.
use Rattle.std.proofs.Common.{◌≡◌, ◌≢◌, ℕ, ◌+◌, ◌≤◌, List, [], ◌∷◌, ◌++◌, length, refl, ap, ◌∙◌, subst, arith, append_assoc, length-append}
use Rattle.std.specs.Prelude.{Result, codes}
use Rattle.answers.specs.Answers.{Status, WriteFault, Memory}
use Rattle.texts.specs.Printing.{spaced, line_feed}
use Rattle.commands.specs.Commands.{Command}
use Rattle.design_files.specs.Parsed.{Files}
use Rattle.design_answers.specs.Outcomes.{Outcome}
use Rattle.run_ends.specs.Counts.{Faults, HasRisen}
use Rattle.run_ends.specs.Ends.{IsAnswered, with_files, write_fault_text, IsToPrint, an_answer, an_unread_file, an_unwritten_file, IsEnd, prints, is_cut_short, wants_memory_in_printing, wants_memory, wants_memory_in_writing}
use Rattle.run_end_laws.specs.Answers.{IsAnswerStatus, HoldsAnswer, TellsUnwritten}
use Rattle.run_end_laws.proofs.Statuses.{answer_status}

module _ (files : Files) (reading : Result Command ℕ) (faults : Faults) (output : List ℕ) where
  -- where only the output failed, what was to be printed is the answer
  module _ (reads : HasRisen faults.reads → ⊥) (writes : HasRisen faults.writes → ⊥) where
    to_print_holds : (status : Status) (text : List ℕ) (now : Files) → IsToPrint files reading faults status text now → HoldsAnswer files reading now
    to_print_holds _ _ _ (an_answer outcome a) = record { outcome = outcome; answered = a; its_files = refl }
    to_print_holds _ _ _ (an_unread_file rose m) = absurd (reads rose)
    to_print_holds _ _ now (an_unwritten_file outcome rose a w) = absurd (writes rose)

    pub holds : (status : Status) (now : Files) (new : List ℕ) → status ≢ Memory → IsEnd files reading faults output status now new → HoldsAnswer files reading now
    holds status now _ m (prints {text = text} t) = to_print_holds status text now t
    holds _ now new m (is_cut_short {status} {text} rose t a) = to_print_holds status text now t
    holds _ now new m (wants_memory_in_printing t a) = absurd (m refl)
    holds _ _ _ m wants_memory = absurd (m refl)
    holds _ now _ m (wants_memory_in_writing outcome a w) = absurd (m refl)

  -- where the output didn't fail, a write fault is told whole
  module _ (printing : HasRisen faults.prints → ⊥) where
    to_print_tells : (status : Status) (text : List ℕ) (now : Files) → status ≡ WriteFault → IsToPrint files reading faults status text now
        → TellsUnwritten files reading output now (output ++ text)
    to_print_tells _ _ _ e (an_answer outcome a) = absurd (subst IsAnswerStatus e (answer_status files reading outcome a))
    to_print_tells _ _ _ e (an_unread_file rose m) = absurd (let wrong : ⊥ = cc in wrong)
    to_print_tells _ _ now e (an_unwritten_file outcome {w} rose a i) = record { outcome = outcome; file = w; answered = a; in_writing = i; told = refl }

    pub tells : (status : Status) (now : Files) (new : List ℕ) → status ≡ WriteFault → IsEnd files reading faults output status now new → TellsUnwritten files reading output now new
    tells status now _ e (prints {text = text} t) = to_print_tells status text now e t
    tells _ now new e (is_cut_short rose t a) = absurd (printing rose)
    tells _ now new e (wants_memory_in_printing t a) = absurd (let wrong : ⊥ = cc in wrong)
    tells _ _ _ e wants_memory = absurd (let wrong : ⊥ = cc in wrong)
    tells _ now _ e (wants_memory_in_writing outcome a w) = absurd (let wrong : ⊥ = cc in wrong)

-- a text of at most eleven bytes is no telling of a write fault
pub too_short : (output text name : List ℕ) → length text ≤ 11 → output ++ text ≡ output ++ write_fault_text name → ⊥
too_short output text name short e =
    let head : length (write_fault_text name) ≡ 11 + length (spaced (name ∷ []) ++ line_feed) = longer name in
    omega (arith, ap length e, length-append output text, length-append output (write_fault_text name), length-append (spaced (name ∷ [])) line_feed, head, one)
  where
    one : length line_feed ≡ 1
    one = refl

    longer : (name : List ℕ) → length (write_fault_text name) ≡ 11 + length (spaced (name ∷ []) ++ line_feed)
    longer name = ap length (append_assoc (codes "write fault") (spaced (name ∷ [])) line_feed) ∙ length-append (codes "write fault") (spaced (name ∷ []) ++ line_feed)

-- other bytes under a name than the answer's
pub unlike : (files : Files) (reading : Result Command ℕ) (faults : Faults) (output : List ℕ) (now : Files) (new : List ℕ) (o : Outcome) (name : List ℕ)
    → ((p : Outcome) → IsAnswered files reading p → p ≡ o) → (HasRisen faults.reads → ⊥) → (HasRisen faults.writes → ⊥) → now name ≢ with_files files o.written name
    → IsEnd files reading faults output WriteFault now new → ⊥
unlike files reading faults output now new o name one reads writes other end =
    let held : HoldsAnswer files reading now = holds files reading faults output reads writes WriteFault now new (λ e. (let wrong : ⊥ = cc in wrong)) end in
    other (ap (λ (f : Files). f name) held.its_files ∙ ap (λ (p : Outcome). with_files files p.written name) (one held.outcome held.answered))

-- a write fault of a file that isn't told whole
pub silent : (files : Files) (reading : Result Command ℕ) (faults : Faults) (output : List ℕ) (now : Files) (text : List ℕ) → (HasRisen faults.prints → ⊥) → length text ≤ 11
    → IsEnd files reading faults output WriteFault now (output ++ text) → ⊥
silent files reading faults output now text none short end =
    let told : TellsUnwritten files reading output now (output ++ text) = tells files reading faults output none WriteFault now (output ++ text) refl end in
    too_short output text told.file.name short told.told
