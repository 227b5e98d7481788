-- Ends that may be.
use Rattle.std.proofs.Common.{◌≡◌, ℕ, List, [], ◌∷◌, ◌++◌, refl, arith}
use Rattle.std.specs.Prelude.{Result, Ok, codes}
use Rattle.words.specs.Appended.{AppendsFront}
use Rattle.std.specs.Fmt.{decimal}
use Rattle.texts.specs.Printing.{spaced, line_feed}
use Rattle.answers.specs.Refusals.{Missing}
use Rattle.answers.specs.Texts.{refused_text}
use Rattle.answers.specs.Answers.{Refused, ReadFault, WriteFault, Memory}
use Rattle.commands.specs.Commands.{Command, Drivers}
use Rattle.design_files.specs.Parsed.{Files}
use Rattle.design_answers.specs.Outcomes.{Outcome, Written}
use Rattle.design_answers.specs.DriversOutcomes.{drivers_outcome}
use Rattle.run_ends.specs.Counts.{Faults, HasRisen}
use Rattle.run_ends.specs.Reads.{its_database}
use Rattle.run_ends.specs.Ends.{IsAnswered, SameBut, with_files, write_fault_text, IsToPrint, an_answer, an_unread_file, an_unwritten_file, IsEnd, prints, is_cut_short, wants_memory_in_printing}
use Rattle.run_end_laws.specs.Answers.{no_faults, a_failed_read, a_failed_print, empty}

abbrev reading : Result Command ℕ
reading = Ok (Drivers (codes "m.db") [])

refusal : (faults : Faults) → IsToPrint empty reading faults Refused (refused_text (Missing (codes "m.db"))) empty
refusal faults = an_answer (drivers_outcome empty (codes "m.db") []) refl

a_front : AppendsFront [] (codes "refus") (refused_text (Missing (codes "m.db")))
a_front = record { front = codes "refus"; rest = codes "ed" ++ spaced (decimal 1 ∷ codes "Missing" ∷ codes "m.db" ∷ []) ++ line_feed; appended = refl; whole = refl }

pub answered_end : IsEnd empty (Ok (Drivers (codes "m.db") [])) no_faults [] Refused empty (refused_text (Missing (codes "m.db")))
answered_end = prints (refusal no_faults)

pub unread_end : IsEnd empty (Ok (Drivers (codes "m.db") [])) a_failed_read [] ReadFault empty (codes "read fault m.db\n")
unread_end = prints (an_unread_file (record { never_falls = omega arith; risen = omega arith }) its_database)

pub cut_end : IsEnd empty (Ok (Drivers (codes "m.db") [])) a_failed_print [] WriteFault empty (codes "refus")
cut_end = is_cut_short (record { never_falls = omega arith; risen = omega arith }) (refusal a_failed_print) a_front

pub memory_end : IsEnd empty (Ok (Drivers (codes "m.db") [])) no_faults [] Memory empty (codes "refus")
memory_end = wants_memory_in_printing (refusal no_faults) a_front

module _ (files : Files) (reading : Result Command ℕ) (faults : Faults) (output : List ℕ) (o : Outcome) where
  pub unprinted_end : IsAnswered files reading o → HasRisen faults.prints → IsEnd files reading faults output WriteFault (with_files files o.written) (output ++ [])
  unprinted_end a rose = is_cut_short rose (an_answer o a) (record { front = []; rest = o.text; appended = refl; whole = refl })

  pub unwritten_end : (w : Written) (rest : List Written) (now : Files) → IsAnswered files reading o → o.written ≡ w ∷ rest → SameBut w.name files now
      → HasRisen faults.writes → IsEnd files reading faults output WriteFault now (output ++ write_fault_text w.name)
  unwritten_end w rest now a e same rose = prints (an_unwritten_file o {w = w} rose a (record { before = []; rest = rest; order = e; others = same }))
