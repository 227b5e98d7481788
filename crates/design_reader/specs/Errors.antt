-- What an error of a reading of files tells. (Our own.)
use Rattle.std.specs.Prelude.{◌≡◌, ℕ, ◌≤◌, List, Result, Ok, Err, Option, MatchOption}
use Rattle.words.specs.Rose.{Rose}
use Rattle.answers.specs.Refusals.{Refusal}
use Rattle.answers.specs.Texts.{refused_text, read_fault_text}
use Rattle.design_reader.specs.declared.errors.FileError.{FileError}
use Rattle.design_reader.specs.declared.errors.FileError.TheVariants.{Refused, Unread, Memory}

-- the error is this refusal, unless memory ran out
abbrev pub Tells : Refusal → FileError → Type 0
Tells refusal (Refused text) = text.items ≡ refused_text refusal
Tells refusal (Unread text) = ⊥
Tells refusal Memory = Unit {0}

-- the error tells that a read of this file failed, unless memory ran out
abbrev pub TellsUnread : List ℕ → FileError → Type 0
TellsUnread name (Refused text) = ⊥
TellsUnread name (Unread text) = text.items ≡ read_fault_text name
TellsUnread name Memory = Unit {0}

-- the error of a file stands for that of its reader, which has this fault, and this refusal of it
abbrev pub StandsFor : {E F : Type 0} → (E → Option F) → (F → Refusal) → E → FileError → Type 0
StandsFor fault refusal error e = MatchOption (fault error) (e ≡ Memory) (λ f. Tells (refusal f) e)

-- a count of failed reads before and after a reading of files that ended with an error: only a read that failed raises it
abbrev pub ErrorCounts : FileError → ℕ → ℕ → Type 0
ErrorCounts (Refused text) before now = now ≡ before
ErrorCounts (Unread text) before now = Rose before now
ErrorCounts Memory before now = before ≤ now

-- the same of any reading of files
abbrev pub ReadCounts : {X : Type 0} → Result X FileError → ℕ → ℕ → Type 0
ReadCounts (Ok x) before now = now ≡ before
ReadCounts (Err e) before now = ErrorCounts e before now
