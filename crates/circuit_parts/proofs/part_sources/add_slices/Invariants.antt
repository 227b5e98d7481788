use Rattle.std.proofs.Common.{◌≡◌, ◌++◌, drop}
use Rattle.std.specs.List.{flat_map}
use Rattle.circuit.specs.Parts.{slice_sources}
use Rattle.circuit_parts.proofs.part_sources.add_slices.Given as goal

-- the parts so far, and the slices that are left
abbrev pub invariant-loop-slice : goal.invariant-loop-slice
invariant-loop-slice l = l.sources.items ++ flat_map slice_sources (drop l.slice-index l.slices) ≡ l.fn.sources.items ++ flat_map slice_sources l.slices
