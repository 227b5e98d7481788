use Rattle.std.proofs.Common.{◌≡◌, ◌++◌, drop}
use Rattle.circuit.specs.Parts.{numbered, register_source}
use Rattle.circuit_parts.proofs.part_sources.add_registers.Given as goal

-- the parts so far, and the registers that are left
abbrev pub invariant-loop-number : goal.invariant-loop-number
invariant-loop-number l = l.sources.items ++ numbered (register_source l.slice) l.number (drop l.number l.register-items) ≡ l.fn.sources.items ++ numbered (register_source l.slice) 0 l.register-items
