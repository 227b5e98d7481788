-- What a reading of a whole file answers. Our own.
use Rattle.std.specs.Prelude.{◌≡◌, ℕ, List, length, Option, Some, None, Result, Ok, Err, nat_lt, if◌then◌else◌}
use Rattle.std.specs.declared.vec.Vec.{Vec}
use Rattle.std.specs.declared.alloc.Global.{Global}
use Rattle.words.specs.Rose.{Rose}
use Rattle.outside.specs.declared.whole.WholeError.{WholeError}
use Rattle.outside.specs.declared.whole.WholeError.TheVariants.{Missing, TooLong, ReadFault, Memory}

-- the whole file, of at most so many bytes
abbrev pub whole_of : Option (List ℕ) → ℕ → Result (List ℕ) WholeError
whole_of None limit = Err Missing
whole_of (Some bytes) limit = if nat_lt limit (length bytes) then Err TooLong else Ok bytes

-- the answer is the expected one, unless a read failed or memory ran out
abbrev pub Answers : Result (Vec ℕ Global) WholeError → Result (List ℕ) WholeError → Type 0
Answers (Ok v) expected = expected ≡ Ok v.items
Answers (Err Missing) expected = expected ≡ Err Missing
Answers (Err TooLong) expected = expected ≡ Err TooLong
Answers (Err ReadFault) expected = Unit {0}
Answers (Err Memory) expected = Unit {0}

-- a count of faults before and after a reading of a whole file: a fault comes only where it rose, and
-- is the answer wherever it is greater than before
abbrev pub WholeCounts : Result (Vec ℕ Global) WholeError → ℕ → ℕ → Type 0
WholeCounts (Ok v) before now = now ≡ before
WholeCounts (Err Missing) before now = now ≡ before
WholeCounts (Err TooLong) before now = now ≡ before
WholeCounts (Err ReadFault) before now = Rose before now
WholeCounts (Err Memory) before now = now ≡ before
