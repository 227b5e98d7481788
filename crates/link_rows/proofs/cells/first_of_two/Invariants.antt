use Rattle.std.proofs.Common.{◌≡◌, ℕ, ◌<◌, List, Some, length, slice_get}
use Rattle.link_rows.proofs.cells.first_of_two.Given as goal

-- no row so far holds more than one
abbrev pub invariant-loop-number : goal.invariant-loop-number
invariant-loop-number l = (k : ℕ) → k < l.number → (row : List ℕ) → slice_get l.rows k ≡ Some row → length row < 2
