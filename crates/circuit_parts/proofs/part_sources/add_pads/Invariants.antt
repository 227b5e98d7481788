use Rattle.std.proofs.Common.{◌≡◌, ◌++◌, drop}
use Rattle.std.specs.List.{flat_map}
use Rattle.circuit.specs.Parts.{pad_sources}
use Rattle.circuit_parts.proofs.part_sources.add_pads.Given as goal

-- the parts so far, and the pads that are left
abbrev pub invariant-loop-pad : goal.invariant-loop-pad
invariant-loop-pad l = l.sources.items ++ flat_map pad_sources (drop l.pad-index l.pads) ≡ l.fn.sources.items ++ flat_map pad_sources l.pads
