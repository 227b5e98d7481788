use Rattle.std.proofs.Common.{◌≡◌, ℕ, ◌<◌, Some}
use Rattle.std.specs.Prelude.{slice_get}
use Rattle.circuit.specs.Pins.{Pin}
use Rattle.copy_rules.proofs.feeds.place_of.Given as goal

-- no pin so far has the number
abbrev pub invariant-loop-place : goal.invariant-loop-place
invariant-loop-place l = (k : ℕ) (p : Pin) → k < l.place → slice_get l.row k ≡ Some p → p.ref.pin ≡ l.number → ⊥
