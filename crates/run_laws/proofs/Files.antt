-- Files that no answer writes stand as they stood.
use Rattle.std.proofs.Common.{◌≡◌, ◌≢◌, ℕ, true, false, Bool, List, [], ◌∷◌, Some, inl, inr, refl, sym, ap, subst, ◌∙◌, if◌then◌else◌}
use Rattle.std.specs.Prelude.{Result}
use Rattle.std.specs.Str.{bytes_eq}
use Rattle.std.proofs.lemmas.Slice.Eq.{bytes_eq-Decides}
use Rattle.words.specs.Members.{In}
use Rattle.links.proofs.Members.{in_left, in_right}
use Rattle.answers.specs.Answers.{Status}
use Rattle.commands.specs.Commands.{Command}
use Rattle.design_files.specs.Parsed.{Files}
use Rattle.design_answers.specs.Outcomes.{Outcome, Written}
use Rattle.run_ends.specs.Counts.{Faults}
use Rattle.run_ends.specs.Ends.{IsAnswered, with_file, with_files, IsInWriting, IsToPrint, an_answer, an_unread_file, an_unwritten_file, IsEnd, prints, is_cut_short, wants_memory_in_printing, wants_memory, wants_memory_in_writing}
use Rattle.run_laws.specs.Runs.{IsWrittenByNone}

-- names that differ are told apart
pub told_apart : (a b : List ℕ) → a ≢ b → bytes_eq a b ≡ false
told_apart a b h = go (bytes_eq a b) refl
  where
    go : (t : Bool) → bytes_eq a b ≡ t → bytes_eq a b ≡ false
    go true e = absurd (h ((bytes_eq-Decides a b).0 e))
    go false e = e

pub another_file : (files : Files) (w : Written) (name : List ℕ) → name ≢ w.name → with_file files w name ≡ files name
another_file files w name h = ap (λ b. if b then Some w.bytes else files name) (told_apart name w.name h)

-- a name under which none of some files is written
pub other_stays : (files : Files) (written : List Written) (name : List ℕ) → ((w : Written) → In written w → w.name ≡ name → ⊥) → with_files files written name ≡ files name
other_stays files [] name h = refl
other_stays files (w ∷ rest) name h = other_stays (with_file files w) rest name (λ v i. h v (inr i)) ∙ another_file files w name (λ e. h w (inl refl) (sym e))

module _ (files : Files) (reading : Result Command ℕ) (faults : Faults) (name : List ℕ) (none : IsWrittenByNone files reading name) where
  in_writing : (outcome : Outcome) (w : Written) (now : Files) → IsAnswered files reading outcome → IsInWriting files outcome.written w now → now name ≡ files name
  in_writing outcome w now a i =
      i.others name (λ e. none outcome a w (subst (λ ws. In ws w) (sym i.order) (in_right i.before (w ∷ i.rest) w (inl refl))) (sym e))
      ∙ other_stays files i.before name (λ v j. none outcome a v (subst (λ ws. In ws v) (sym i.order) (in_left i.before (w ∷ i.rest) v j)))

  to_print : (status : Status) (text : List ℕ) (now : Files) → IsToPrint files reading faults status text now → now name ≡ files name
  to_print _ _ _ (an_answer outcome a) = other_stays files outcome.written name (none outcome a)
  to_print _ _ _ (an_unread_file r m) = refl
  to_print _ _ now (an_unwritten_file outcome {w} r a i) = in_writing outcome w now a i

  pub stays : (output : List ℕ) (status : Status) (now : Files) (new : List ℕ) → IsEnd files reading faults output status now new → now name ≡ files name
  stays output _ now _ (prints {status} {text} t) = to_print status text now t
  stays output _ now _ (is_cut_short {status} {text} r t a) = to_print status text now t
  stays output _ now _ (wants_memory_in_printing {status} {text} t a) = to_print status text now t
  stays output _ _ _ wants_memory = refl
  stays output _ now _ (wants_memory_in_writing outcome {w} a i) = in_writing outcome w now a i
