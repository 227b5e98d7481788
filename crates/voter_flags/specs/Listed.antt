-- Sets of voters by slice and table. (Our own.)
use Rattle.std.specs.Prelude.{◌≡◌, ℕ, Bool, false, List}
use Rattle.std.specs.BTreeSet.{BTreeSet, contains_by}
use Rattle.records.specs.Side.{Voter}
use Rattle.circuit.specs.Parts.{PartKind, Table, Register, Pad, PartRef}
use Rattle.side_file.specs.Known.{KnowsVoters, Lent, table_order}

-- the set has just the slices and tables of these voters
abbrev pub ListsVoters : BTreeSet (Lent × ℕ) → List Voter → Type 0
ListsVoters set voters = KnowsVoters set voters

abbrev pub kind_listed : BTreeSet (Lent × ℕ) → List ℕ → PartKind → Bool
kind_listed set cell (Table n) = contains_by (table_order (cell, n)) set
kind_listed set cell (Register n) = false
kind_listed set cell Pad = false

-- the part is a table with its slice and its number in the set
abbrev pub is_listed : BTreeSet (Lent × ℕ) → PartRef → Bool
is_listed set part = kind_listed set part.cell part.part
