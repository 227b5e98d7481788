use Rattle.std.proofs.Common.{◌≡◌, ℕ, ◌<◌, Some}
use Rattle.std.specs.Prelude.{slice_get}
use Rattle.table_masks.specs.Masking.{MayTurn}
use Rattle.table_masks.specs.declared.table_pin.TablePin.{TablePin}
use Rattle.table_masks.proofs.masking.turns.Given as goal

-- the pins so far may turn
abbrev pub invariant-loop-place : goal.invariant-loop-place
invariant-loop-place l = (k : ℕ) (p : TablePin) → k < l.place → slice_get l.pins k ≡ Some p → MayTurn l.other l.before l.after k p
