use Rattle.std.proofs.Common.{◌≡◌, take, sum_by}
use Rattle.cells_known.specs.Counted.{capped, register_pins}
use Rattle.cells_known.proofs.counts.register_pins.Given as goal

-- the pins of the registers so far
abbrev pub invariant-loop-register : goal.invariant-loop-register
invariant-loop-register l = l.count ≡ capped (sum_by register_pins (take l.register-index l.registers))
