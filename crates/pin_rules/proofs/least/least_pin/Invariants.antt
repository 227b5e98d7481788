use Rattle.std.proofs.Common.{◌≡◌, true}
use Rattle.circuit.specs.Pins.{pins}
use Rattle.pin_rules.specs.Flags.{flag_at}
use Rattle.pin_rules.specs.Least.{LeastFlagged, pin_order}
use Rattle.pin_rules.proofs.least.least_pin.Given as goal

-- the least of the pins so far
abbrev pub invariant-loop-place : goal.invariant-loop-place
invariant-loop-place l = LeastFlagged pin_order (pins l.parts) (λ i. flag_at l.rule l.parts l.feeds l.read l.owners i ≡ true) l.place l.least
