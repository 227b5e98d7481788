-- What a sink of bytes answers, and what a writing of all bytes leaves in it. Our own.
use Rattle.std.specs.Prelude.{◌≡◌, ℕ, ◌<◌, ◌≤◌, List, [], ◌++◌, take, Result, Ok, Err}
use Rattle.words.specs.Rose.{Rose}
use Rattle.words.specs.Appended.{AppendsFront}
use Rattle.outside.specs.declared.TakeAnswer.{TakeAnswer}
use Rattle.outside.specs.declared.TakeAnswer.TheVariants.{Took, Failed, Memory}
use Rattle.outside.specs.declared.whole.SinkError.{SinkError}
use Rattle.outside.specs.declared.whole.SinkError.TheVariants as error

-- a count of faults before and after a call: Failed comes only where it rose, and only Failed raises it
abbrev pub TakeCounts : TakeAnswer → ℕ → ℕ → Type 0
TakeCounts (Took n) before now = now ≡ before
TakeCounts Failed before now = Rose before now
TakeCounts Memory before now = now ≡ before

-- a call takes at most the whole piece, and at least one byte of a piece that isn't empty
abbrev pub TookFits : TakeAnswer → ℕ → Type 0
TookFits (Took n) size = (n ≤ size) × (0 < size → 0 < n)
TookFits Failed size = Unit {0}
TookFits Memory size = Unit {0}

-- a call that takes bytes takes so many
abbrev pub TookMost : TakeAnswer → ℕ → Type 0
TookMost (Took n) most = n ≡ most
TookMost Failed most = Unit {0}
TookMost Memory most = Unit {0}

-- the bytes of the piece that a call appends
abbrev pub taken_of : TakeAnswer → List ℕ → List ℕ
taken_of (Took n) piece = take n piece
taken_of Failed piece = []
taken_of Memory piece = []

-- all bytes were appended, or after an error some of them from the first on
abbrev pub Appends : Result (Unit {0}) SinkError → List ℕ → List ℕ → List ℕ → Type 0
Appends (Ok done) old new bytes = new ≡ old ++ bytes
Appends (Err e) old new bytes = AppendsFront old new bytes

-- a count of faults before and after a writing of all bytes: a fault comes only where it rose, and is
-- the answer wherever it is greater than before
abbrev pub SinkCounts : Result (Unit {0}) SinkError → ℕ → ℕ → Type 0
SinkCounts (Ok done) before now = now ≡ before
SinkCounts (Err error.WriteFault) before now = Rose before now
SinkCounts (Err error.Memory) before now = now ≡ before
