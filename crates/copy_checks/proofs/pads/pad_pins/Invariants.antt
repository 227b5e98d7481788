use Rattle.std.proofs.Common.{length}
use Rattle.circuit.specs.Parts.{sources}
use Rattle.circuit.specs.Pins.{pins}
use Rattle.circuit_parts.specs.Flat.{first_pin}
use Rattle.copy_checks.specs.Pads.{HoldsPins}
use Rattle.copy_checks.proofs.pads.pad_pins.Given as goal

-- the pins so far
abbrev pub invariant-loop-place : goal.invariant-loop-place
invariant-loop-place l = HoldsPins (pins l.parts) (first_pin l.parts (length (sources l.parts))) l.place l.pads
