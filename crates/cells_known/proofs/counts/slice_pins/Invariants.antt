use Rattle.std.proofs.Common.{◌≡◌, length, take, sum_by}
use Rattle.std.specs.List.{flat_map}
use Rattle.circuit.specs.Parts.{slice_sources}
use Rattle.circuit.specs.Pins.{source_pins}
use Rattle.cells_known.specs.Counted.{capped}
use Rattle.cells_known.proofs.counts.slice_pins.Given as goal

-- the pins of the slices so far
abbrev pub invariant-loop-slice : goal.invariant-loop-slice
invariant-loop-slice l = l.count ≡ capped (sum_by (λ s. length (flat_map source_pins (slice_sources s))) (take l.slice-index l.slices))
