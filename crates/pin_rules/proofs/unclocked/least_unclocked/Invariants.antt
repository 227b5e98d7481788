use Rattle.std.proofs.Common.{◌≡◌, true}
use Rattle.circuit.specs.Parts.{sources}
use Rattle.pin_rules.specs.Least.{LeastFlagged, part_order}
use Rattle.pin_rules.specs.Unclocked.{unclocked_at}
use Rattle.pin_rules.proofs.unclocked.least_unclocked.Given as goal

-- the least of the parts so far
abbrev pub invariant-loop-place : goal.invariant-loop-place
invariant-loop-place l = LeastFlagged part_order (sources l.parts) (λ k. unclocked_at l.parts l.feeds l.read k ≡ true) l.place l.least
