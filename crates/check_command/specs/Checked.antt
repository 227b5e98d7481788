-- What `check` answers to a design that is read. (Our own.)
use Rattle.std.specs.Prelude.{◌≡◌, ◌⊎◌, Result, IfOk}
use Rattle.std.specs.declared.alloc.AllocError.{AllocError}
use Rattle.records.specs.Side.{Side}
use Rattle.fabric.specs.Graph.{Graph}
use Rattle.fabric.specs.GraphOf.{IsGraph}
use Rattle.answers.specs.Answers as status
use Rattle.answers.specs.Answers.{Answer}
use Rattle.answers.specs.Refusals.{Refusal}
use Rattle.answers.specs.Texts.{refused_text}
use Rattle.reports.specs.Reports.{Checked}
use Rattle.reports.specs.ReportTexts.{report_text}
use Rattle.design_files.specs.Designs.{Design}
use Rattle.design_checks.specs.Checks.{Passes}
use Rattle.design_checks.specs.DesignChecks.{DesignRefused}
use Rattle.design_answers.specs.Reported.{counts_of}
use Rattle.load_routing.specs.declared.error.LoadError.{LoadError}
use Rattle.load_routing.specs.declared.error.LoadError.TheVariants.{Refused, Memory}

-- the answer to a design that is accepted
abbrev pub accepted_answer : Side → Answer
accepted_answer side = record { status = status.Done; text = report_text (Checked (counts_of side)) }

-- the answer to a design that is refused
abbrev pub refused_answer : Refusal → Answer
refused_answer r = record { status = status.Refused; text = refused_text r }

-- the checks pass and the answer is the counts, or it is what they refuse
abbrev pub IsCheckedBy : (Refusal → Type 0) → Side → Answer → Type 0
IsCheckedBy check side answer = (Passes check × (answer ≡ accepted_answer side)) ⊎ ((r : Refusal) × (check r × (answer ≡ refused_answer r)))

-- The answer to a design: its counts exactly where no check refuses it, else the first refusal.
abbrev pub IsCheckedAs : Design → Answer → Type 0
IsCheckedAs design answer = (g : Graph) → IsGraph design.device g → IsCheckedBy (DesignRefused design g) design.side answer

-- an error is answered by its line; there is no answer where memory runs out
abbrev pub AnswersError : LoadError → Result Answer AllocError → Type 0
AnswersError (Refused text) result = IfOk result (λ answer. answer ≡ record { status = status.Refused; text = text.items })
AnswersError Memory result = IfOk result (λ answer. ⊥)
