use Rattle.std.proofs.Common.{◌≡◌, ◌++◌, drop, map}
use Rattle.circuit.specs.Pins.{pad_pin}
use Rattle.circuit_parts.proofs.part_pins.add_pads.Given as goal

-- the pins so far, and those of the pads that are left
abbrev pub invariant-loop-pad : goal.invariant-loop-pad
invariant-loop-pad l = l.pins.items ++ map (λ pad. pad_pin pad.now) (drop l.pad-index l.pads) ≡ l.fn.pins.items ++ map (λ pad. pad_pin pad.now) l.pads
