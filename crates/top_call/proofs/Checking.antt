-- What the reply of `check` says.
use Rattle.std.proofs.Common.{◌≡◌, ◌≢◌, ℕ, ◌≤◌, inl, inr, List, refl, sym, subst, ◌∙◌, arith}
use Rattle.std.specs.Prelude.{Result, Ok, Err, IfOk}
use Rattle.std.specs.declared.alloc.AllocError.{AllocError}
use Rattle.words.specs.Rose.{Rose}
use Rattle.answers.specs.Answers.{Status, Done, Unsafe, NoRoute, Refused, Usage, ReadFault, WriteFault, Memory, Answer}
use Rattle.commands.specs.Commands.{Command, Inputs, Check}
use Rattle.design_files.specs.Parsed.{Files}
use Rattle.design_files.specs.Designs.{Design, design_of}
use Rattle.design_checks.specs.DesignChecks.{of_files}
use Rattle.design_answers.specs.Outcomes.{refuses}
use Rattle.run_ends.specs.Reads.{IsReached, of_design}
use Rattle.design_reader.specs.declared.errors.FileError.{FileError}
use Rattle.design_reader.specs.declared.errors.FileError.TheVariants as error
use Rattle.design_reader.specs.Answers.{Refuses}
use Rattle.design_reader.specs.Errors.{ErrorCounts}
use Rattle.check_command.specs.Checked.{IsCheckedAs}
use Rattle.check_command.proofs.Outcomes.{outcome_of, status_of_checked}
use Rattle.top_call.specs.Replies.{AnswersError, EitherWay, IsProper, IsReply, ReplyCounts, TellsUnread, UsageReply, without_files}

-- an answer that is Done or Refused is an answer
either_done : (s : Status) (answered unread : Type 0) → s ≡ Done → answered → EitherWay s answered unread
either_done s answered unread e h = subst (λ (x : Status). EitherWay x answered unread) (sym e) h

either_refused : (s : Status) (answered unread : Type 0) → s ≡ Refused → answered → EitherWay s answered unread
either_refused s answered unread e h = subst (λ (x : Status). EitherWay x answered unread) (sym e) h

module _ (design : Design) (answer : Answer) (checked : IsCheckedAs design answer) where
  either : (answered unread : Type 0) → answered → EitherWay answer.status answered unread
  either answered unread h = elim (status_of_checked design answer checked) [
    | inl e ↦ either_done answer.status answered unread e h
    | inr e ↦ either_refused answer.status answered unread e h
  ]

  not_usage : answer.status ≢ Usage
  not_usage u = elim (status_of_checked design answer checked) [
    | inl e ↦ (let no : Usage ≡ Done = sym u ∙ e in let wrong : ⊥ = cc in wrong)
    | inr e ↦ (let no : Usage ≡ Refused = sym u ∙ e in let wrong : ⊥ = cc in wrong)
  ]

-- ---- a design that was read

pub design_reply : (files : Files) (inputs : Inputs) (design : Design) (result : Result Answer AllocError) → design_of files inputs ≡ Ok design → IfOk result (IsCheckedAs design)
    → IsReply files (Ok (Check inputs)) result
design_reply files inputs design (Ok answer) read checked = either design answer checked _ _ (outcome_of files inputs design answer read checked)
design_reply files inputs design (Err e) read checked = tt

pub design_proper : (files : Files) (inputs : Inputs) (design : Design) (result : Result Answer AllocError) → IfOk result (IsCheckedAs design) → IsProper files (Ok (Check inputs)) result
design_proper files inputs design (Ok answer) checked = either design answer checked _ _ tt
design_proper files inputs design (Err e) checked = tt

pub design_usage : (inputs : Inputs) (design : Design) (result : Result Answer AllocError) → IfOk result (IsCheckedAs design) → UsageReply (Ok (Check inputs)) result
design_usage inputs design (Ok answer) checked = not_usage design answer checked
design_usage inputs design (Err e) checked = tt

pub design_counts : (design : Design) (result : Result Answer AllocError) (before now : ℕ) → IfOk result (IsCheckedAs design) → now ≡ before → ReplyCounts result before now
design_counts design (Ok answer) before now checked same = either design answer checked _ _ same
design_counts design (Err e) before now checked same = omega arith

-- ---- files that give no design

pub error_reply : (files : Files) (inputs : Inputs) (e : FileError) (result : Result Answer AllocError) → Refuses (design_of files inputs) (IsReached files inputs) e → AnswersError e result
    → IsReply files (Ok (Check inputs)) result
error_reply files inputs (error.Refused text) (Ok answer) told is =
    subst (λ (a : Answer). IsReply files (Ok (Check inputs)) (Ok a)) (sym is)
    (subst (λ (t : List ℕ). IsReply files (Ok (Check inputs)) (Ok (record { status = Refused; text = t }))) (sym told.its_text) (refuses {inputs = inputs} refl (of_files told.refused)))
error_reply files inputs (error.Unread text) (Ok answer) told is = subst (λ (a : Answer). IsReply files (Ok (Check inputs)) (Ok a)) (sym is) tt
error_reply files inputs error.Memory (Ok answer) told is = absurd is
error_reply files inputs e (Err x) told is = tt

pub error_proper : (files : Files) (inputs : Inputs) (e : FileError) (result : Result Answer AllocError) → Refuses (design_of files inputs) (IsReached files inputs) e → AnswersError e result
    → IsProper files (Ok (Check inputs)) result
error_proper files inputs (error.Refused text) (Ok answer) told is = subst (λ (a : Answer). IsProper files (Ok (Check inputs)) (Ok a)) (sym is) tt
error_proper files inputs (error.Unread text) (Ok answer) told is =
    subst (λ (a : Answer). IsProper files (Ok (Check inputs)) (Ok a)) (sym is) (told.name, of_design {inputs = inputs} refl told.reached, told.its_text)
error_proper files inputs error.Memory (Ok answer) told is = absurd is
error_proper files inputs e (Err x) told is = tt

pub error_usage : (inputs : Inputs) (e : FileError) (result : Result Answer AllocError) → AnswersError e result → UsageReply (Ok (Check inputs)) result
error_usage inputs (error.Refused text) (Ok answer) is = subst (λ (a : Answer). a.status ≢ Usage) (sym is) (λ u. (let wrong : ⊥ = cc in wrong))
error_usage inputs (error.Unread text) (Ok answer) is = subst (λ (a : Answer). a.status ≢ Usage) (sym is) (λ u. (let wrong : ⊥ = cc in wrong))
error_usage inputs error.Memory (Ok answer) is = absurd is
error_usage inputs e (Err x) is = tt

pub error_counts : (e : FileError) (result : Result Answer AllocError) (before now : ℕ) → AnswersError e result → ErrorCounts e before now → ReplyCounts result before now
error_counts (error.Refused text) (Ok answer) before now is counts = subst (λ (a : Answer). ReplyCounts (Ok a) before now) (sym is) counts
error_counts (error.Unread text) (Ok answer) before now is counts = subst (λ (a : Answer). ReplyCounts (Ok a) before now) (sym is) counts
error_counts error.Memory (Ok answer) before now is counts = absurd is
error_counts (error.Refused text) (Err x) before now is counts = omega arith
error_counts (error.Unread text) (Err x) before now is counts = omega arith
error_counts error.Memory (Err x) before now is counts = counts
