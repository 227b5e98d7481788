-- How a run ends whose words have one answer, where no device fails and memory doesn't run out.
use Rattle.std.proofs.Common.{◌≡◌, ◌≢◌, ℕ, List, ◌++◌, refl, ap}
use Rattle.std.specs.Prelude.{Result}
use Rattle.answers.specs.Answers.{Status, Memory}
use Rattle.commands.specs.Commands.{Command}
use Rattle.design_files.specs.Parsed.{Files}
use Rattle.design_answers.specs.Outcomes.{Outcome}
use Rattle.run_ends.specs.Counts.{Faults, NoneRose}
use Rattle.run_ends.specs.Ends.{IsAnswered, with_files, IsToPrint, an_answer, an_unread_file, an_unwritten_file, IsEnd, prints, is_cut_short, wants_memory_in_printing, wants_memory, wants_memory_in_writing}

module _ (files : Files) (reading : Result Command ℕ) (o : Outcome) (one : (p : Outcome) → IsAnswered files reading p → p ≡ o) (faults : Faults) (sound : NoneRose faults) (output : List ℕ) where
  abbrev IsItsEnd : Status → Files → List ℕ → Type 0
  IsItsEnd status now new = (status ≡ o.status) × ((now ≡ with_files files o.written) × (new ≡ output ++ o.text))

  answered : (p : Outcome) → p ≡ o → IsItsEnd p.status (with_files files p.written) (output ++ p.text)
  answered p same = (ap (λ (x : Outcome). x.status) same, (ap (λ (x : Outcome). with_files files x.written) same, ap (λ (x : Outcome). output ++ x.text) same))

  printed : (status : Status) (text : List ℕ) (now : Files) → IsToPrint files reading faults status text now → IsItsEnd status now (output ++ text)
  printed _ _ _ (an_answer p a) = answered p (one p a)
  printed _ _ _ (an_unread_file r m) = absurd (sound.reads r)
  printed _ _ now (an_unwritten_file p {w} r a i) = absurd (sound.writes r)

  pub ends_with : (status : Status) (now : Files) (new : List ℕ) → IsEnd files reading faults output status now new → status ≢ Memory → IsItsEnd status now new
  ends_with _ now _ (prints {status} {text} t) enough = printed status text now t
  ends_with _ now _ (is_cut_short {status} {text} r t a) enough = absurd (sound.prints r)
  ends_with _ now _ (wants_memory_in_printing {status} {text} t a) enough = absurd (enough refl)
  ends_with _ _ _ wants_memory enough = absurd (enough refl)
  ends_with _ now _ (wants_memory_in_writing p {w} a i) enough = absurd (enough refl)
