use Rattle.std.proofs.Common.{◌≡◌, ◌++◌, drop, filter, map}
use Rattle.circuit.specs.Parts.{is_output}
use Rattle.circuit_parts.proofs.part_sources.outputs.Given as goal

-- the output pads so far, and the pads that are left
abbrev pub invariant-loop-pad : goal.invariant-loop-pad
invariant-loop-pad l = map (λ p. p.now) l.outputs.items ++ filter (λ p. is_output p.role) (drop l.pad-index l.pads) ≡ filter (λ p. is_output p.role) l.pads
