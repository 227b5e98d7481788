-- Calls of one kind, of which those with listed numbers fail. Our own.
use Rattle.std.specs.Prelude.{ℕ, ◌+◌, List, Bool, true, false, min, Contains, if◌then◌else◌}
use Rattle.words.specs.Rose.{last_count}
use Rattle.outside.specs.declared.ReadAnswer.{ReadAnswer}
use Rattle.outside.specs.declared.ReadAnswer.TheVariants as read
use Rattle.outside.specs.declared.PutAnswer.{PutAnswer}
use Rattle.outside.specs.declared.PutAnswer.TheVariants as put
use Rattle.outside.specs.declared.TakeAnswer.{TakeAnswer}
use Rattle.outside.specs.declared.TakeAnswer.TheVariants as take

-- the numbers of the calls that fail, how many calls were made, and how many of them failed
pub record Calls : Type 0 where
  pub failing : List ℕ
  pub made : ℕ
  pub faults : ℕ

-- before the first call
abbrev pub no_calls : List ℕ → Calls
no_calls failing = record { failing = failing; made = 0; faults = 0 }

-- one more, but for a count that stands at its last value
abbrev pub one_more : ℕ → ℕ
one_more count = min (count + 1) last_count

-- the next call, which has the number after that of the last one, is one that fails
abbrev pub NextFails : Calls → Type 0
NextFails calls = Contains calls.failing (one_more calls.made)

-- after one more call, that failed or didn't
abbrev pub after_call : Calls → Bool → Calls
after_call calls failed = record {
  failing = calls.failing;
  made = one_more calls.made;
  faults = if failed then one_more calls.faults else calls.faults;
}

-- the read failed
abbrev pub read_failed : ReadAnswer → Bool
read_failed (read.Got n) = false
read_failed read.End = false
read_failed read.Missing = false
read_failed read.Failed = true

-- the write of a file failed
abbrev pub put_failed : PutAnswer → Bool
put_failed put.Done = false
put_failed put.Failed = true
put_failed put.Memory = false

-- the write to a sink failed
abbrev pub take_failed : TakeAnswer → Bool
take_failed (take.Took n) = false
take_failed take.Failed = true
take_failed take.Memory = false
