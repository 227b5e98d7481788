use Rattle.std.proofs.Common.{◌≡◌, length, take, sum_by}
use Rattle.circuit.specs.Parts.{slice_sources}
use Rattle.cells_known.specs.Counted.{capped}
use Rattle.cells_known.proofs.counts.slice_parts.Given as goal

-- the parts of the slices so far
abbrev pub invariant-loop-slice : goal.invariant-loop-slice
invariant-loop-slice l = l.count ≡ capped (sum_by (λ s. length (slice_sources s)) (take l.slice-index l.slices))
