-- What files outside of the program answer to a read and to a write. Our own.
use Rattle.std.specs.Prelude.{◌≡◌, ℕ, ◌+◌, ◌<◌, ◌≤◌, List, length, take, drop, Option, Some, None}
use Rattle.words.specs.Rose.{Rose}
use Rattle.outside.specs.declared.ReadAnswer.{ReadAnswer}
use Rattle.outside.specs.declared.ReadAnswer.TheVariants.{Got, End, Missing, Failed}
use Rattle.outside.specs.declared.PutAnswer.{PutAnswer}
use Rattle.outside.specs.declared.PutAnswer.TheVariants as put

-- a count of faults before and after a read: Failed comes only where it rose, and only Failed raises it
abbrev pub ReadCounts : ReadAnswer → ℕ → ℕ → Type 0
ReadCounts (Got n) before now = now ≡ before
ReadCounts End before now = now ≡ before
ReadCounts Missing before now = now ≡ before
ReadCounts Failed before now = Rose before now

-- the same of a write
abbrev pub PutCounts : PutAnswer → ℕ → ℕ → Type 0
PutCounts put.Done before now = now ≡ before
PutCounts put.Failed before now = Rose before now
PutCounts put.Memory before now = now ≡ before

-- a read gives at least one byte, and at most as many as there is room for
abbrev pub GotFits : ReadAnswer → ℕ → Type 0
GotFits (Got n) room = (0 < n) × (n ≤ room)
GotFits End room = Unit {0}
GotFits Missing room = Unit {0}
GotFits Failed room = Unit {0}

-- the first n bytes of the buffer are those of the file from an offset
pub record HoldsPart (bytes : List ℕ) (at n : ℕ) (buffer : List ℕ) : Type 0 where
  pub within : at + n ≤ length bytes
  pub same : take n buffer ≡ take n (drop at bytes)

-- what a read at an offset may answer, and leave in the buffer, where the file is or isn't there; a
-- read may fail at any place
abbrev pub Reads : Option (List ℕ) → ℕ → ReadAnswer → List ℕ → Type 0
Reads None at (Got n) buffer = ⊥
Reads None at End buffer = ⊥
Reads None at Missing buffer = Unit {0}
Reads None at Failed buffer = Unit {0}
Reads (Some bytes) at (Got n) buffer = HoldsPart bytes at n buffer
Reads (Some bytes) at End buffer = length bytes ≤ at
Reads (Some bytes) at Missing buffer = ⊥
Reads (Some bytes) at Failed buffer = Unit {0}

-- what stands under the name after a write of these bytes: the bytes after Done, anything otherwise
abbrev pub Holds : PutAnswer → Option (List ℕ) → List ℕ → Type 0
Holds put.Done file bytes = file ≡ Some bytes
Holds put.Failed file bytes = Unit {0}
Holds put.Memory file bytes = Unit {0}
