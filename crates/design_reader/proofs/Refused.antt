-- Answers of readers as those of files.
use Rattle.std.proofs.Common.{◌≡◌, ℕ, List, refl, sym, ap, subst, arith}
use Rattle.std.specs.Prelude.{Result, Ok, Err, Option, Some, None, IfSome, MatchOption}
use Rattle.words.specs.Rose.{Rose}
use Rattle.answers.specs.Refusals.{Refusal}
use Rattle.design_files.specs.Parsed.{or_refused}
use Rattle.design_reader.specs.declared.errors.FileError.{FileError}
use Rattle.design_reader.specs.declared.errors.FileError.TheVariants.{Refused, Unread, Memory}
use Rattle.design_reader.specs.Errors.{Tells, TellsUnread, StandsFor, ErrorCounts, ReadCounts}
use Rattle.design_reader.specs.Answers.{Refuses, Gives, IsName, NoName}

-- ---- errors that tell something

-- an error that tells the refusal that is expected
pub refuses : {Y : Type 0} (expected : Result Y Refusal) (Reached : List ℕ → Type 0) (refusal : Refusal) (e : FileError) → expected ≡ Err refusal → Tells refusal e
    → Refuses expected Reached e
refuses expected Reached refusal (Refused text) h t = record { refusal = refusal; refused = h; its_text = t }
refuses expected Reached refusal (Unread text) h t = absurd t
refuses expected Reached refusal Memory h t = tt

-- an error that tells of the one file that is read
pub refuses_unread : {Y : Type 0} (expected : Result Y Refusal) (name : List ℕ) (e : FileError) → TellsUnread name e → Refuses expected (IsName name) e
refuses_unread expected name (Refused text) t = absurd t
refuses_unread expected name (Unread text) t = record { name = name; reached = refl; its_text = t }
refuses_unread expected name Memory t = tt

-- a refusal raises no count of failed reads
pub tells_counts : (refusal : Refusal) (e : FileError) (before now : ℕ) → Tells refusal e → now ≡ before → ErrorCounts e before now
tells_counts refusal (Refused text) before now t h = h
tells_counts refusal (Unread text) before now t h = absurd t
tells_counts refusal Memory before now t h = omega arith

pub unread_counts : (name : List ℕ) (e : FileError) (before now : ℕ) → TellsUnread name e → Rose before now → ErrorCounts e before now
unread_counts name (Refused text) before now t h = absurd t
unread_counts name (Unread text) before now t h = h
unread_counts name Memory before now t h = h.never_falls

-- where no read is tried, none fails
pub counts_kept : {X Y : Type 0} (view : X → Y) (expected : Result Y Refusal) (result : Result X FileError) (before now : ℕ) → Gives view expected NoName result → now ≡ before
    → ReadCounts result before now
counts_kept view expected (Ok x) before now t h = h
counts_kept view expected (Err (Refused text)) before now t h = h
counts_kept view expected (Err (Unread text)) before now t h = absurd t.reached
counts_kept view expected (Err Memory) before now t h = omega arith

-- readings without a failed read, and behind them an error
pub counts_behind : {X : Type 0} (result : Result X FileError) (e : FileError) (middle before now : ℕ) → result ≡ Err e → middle ≡ before → ErrorCounts e middle now
    → ReadCounts result before now
counts_behind {X} result e middle before now is kept h =
    subst (λ (r : Result X FileError). ReadCounts r before now) (sym is) (subst (λ n. ErrorCounts e n now) kept h)

-- ---- readers

pub read_well : {X F : Type 0} (expected : Result X F) (refusal : F → Refusal) (x : X) → expected ≡ Ok x → or_refused refusal expected ≡ Ok x
read_well expected refusal x h = ap (or_refused refusal) h

-- an error that stands for the fault of a reader refuses by it
pub fault_refused : {X E F : Type 0} (expected : Result X F) (fault : E → Option F) (refusal : F → Refusal) (Reached : List ℕ → Type 0) (error : E) (e : FileError)
    → IfSome (fault error) (λ f. expected ≡ Err f) → StandsFor fault refusal error e → Refuses (or_refused refusal expected) Reached e
fault_refused {X} {E} {F} expected fault refusal Reached error e = go (fault error)
  where
    go : (o : Option F) → IfSome o (λ f. expected ≡ Err f) → MatchOption o (e ≡ Memory) (λ f. Tells (refusal f) e) → Refuses (or_refused refusal expected) Reached e
    go None h s = subst (Refuses (or_refused refusal expected) Reached) (sym s) tt
    go (Some f) h s = refuses (or_refused refusal expected) Reached (refusal f) e (ap (or_refused refusal) h) s
