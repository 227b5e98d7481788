use Rattle.std.proofs.Common.{◌≡◌, ℕ, ◌<◌, get_or, None}
use Rattle.records.specs.Side.{Side}
use Rattle.circuit.specs.Parts.{sources}
use Rattle.part_triples.specs.Numbers.{numbers_of}
use Rattle.table_masks.specs.Pins.{FeedAlike}
use Rattle.table_masks.proofs.pins.first_alike.Given as goal

-- none so far is alike
abbrev pub invariant-loop-i : goal.invariant-loop-i
invariant-loop-i l = (side : Side) → l.triples ≡ numbers_of side (sources l.parts) → (j : ℕ) → j < l.i → FeedAlike side (sources l.parts) (get_or l.feeds j None) l.part → ⊥
