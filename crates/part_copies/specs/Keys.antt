-- Parts by the names of their cells and by kind, in two maps. (Our own.)
use Rattle.std.specs.Prelude.{◌≡◌, ◌≢◌, ℕ, ◌+◌, ◌*◌, ◌<◌, ◌⊎◌, List, length, slice_get, None, Some}
use Rattle.std.specs.declared.cmp.Ordering.{Ordering}
use Rattle.std.specs.Ordering.{nat_cmp, ordering_then}
use Rattle.std.specs.BTreeMap.{BTreeMap, get}
use Rattle.circuit.specs.Parts.{PartKind, Table, Register, Pad, Source}
use Rattle.part_triples.specs.Places.{place_in}
use denote.Ref.{Bor}

-- a number for each table, each register and the pad of a cell
abbrev pub code_in : PartKind → ℕ
code_in (Table n) = 3 * n
code_in (Register n) = 3 * n + 1
code_in Pad = 2

-- a cell and a code, in order
abbrev pub key_cmp : ℕ × ℕ → ℕ × ℕ → Ordering
key_cmp p q = ordering_then (nat_cmp p.0 q.0) (nat_cmp p.1 q.1)

-- the numbers that stand for the names of cells
abbrev pub CellMap : Type 0
CellMap = BTreeMap (Bor (List ℕ)) ℕ

-- the numbers of parts under cells and codes
abbrev pub KeyMap : Type 0
KeyMap = BTreeMap (ℕ × ℕ) ℕ

-- a name has a number: the one that it had, or where it had none, this one; no other name is changed
pub record HasNumber (old new : CellMap) (name : List ℕ) (place number : ℕ) : Type 0 where
  pub there : place_in new name ≡ Some number
  pub before : (place_in old name ≡ Some number) ⊎ ((place_in old name ≡ None) × (number ≡ place))
  pub others : (q : List ℕ) → q ≢ name → place_in new q ≡ place_in old q

-- The maps have the numbers of the first parts: a name stands under the number of a part of its cell.
pub record HoldsFirst (all : List Source) (n : ℕ) (cells : CellMap) (numbers : KeyMap) : Type 0 where
  pub named : (name : List ℕ) (k : ℕ) → place_in cells name ≡ Some k → (s : Source) × ((slice_get all k ≡ Some s) × (s.part.cell ≡ name))
  pub known : (cell code k : ℕ) → get key_cmp numbers (cell, code) ≡ Some k
      → (u : Source) × ((s : Source) × ((slice_get all cell ≡ Some u) × ((slice_get all k ≡ Some s) × ((s.part.cell ≡ u.part.cell) × (code_in s.part.part ≡ code)))))
  pub complete : (i : ℕ) (s : Source) → i < n → slice_get all i ≡ Some s
      → (cell : ℕ) × ((k : ℕ) × ((place_in cells s.part.cell ≡ Some cell) × (get key_cmp numbers (cell, code_in s.part.part) ≡ Some k)))

-- and of all
abbrev pub HoldsAll : List Source → CellMap → KeyMap → Type 0
HoldsAll all cells numbers = HoldsFirst all (length all) cells numbers
