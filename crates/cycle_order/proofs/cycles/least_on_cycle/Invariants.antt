use Rattle.std.proofs.Common.{ℕ, ◌<◌}
use Rattle.cycle_order.specs.Orders.{IsOnCycle}
use Rattle.cycle_order.specs.Trials.{IsNext}
use Rattle.cycle_order.proofs.cycles.least_on_cycle.Given as goal

-- no node so far reaches itself
abbrev pub invariant-loop-number : goal.invariant-loop-number
invariant-loop-number l = (v : ℕ) → v < l.number → IsOnCycle (IsNext l.next) v → ⊥
