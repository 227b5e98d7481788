use Rattle.std.proofs.Common.{◌≡◌, ◌++◌, filter, map, take}
use Rattle.std.specs.List.{list_any}
use Rattle.patterns.specs.Bits.{bits_of_list}
use Rattle.circuit.specs.Cells.{SliceCell}
use Rattle.upset_effect.proofs.touched.add_slices.Given as goal

-- the names so far
abbrev pub invariant-loop-slice : goal.invariant-loop-slice
invariant-loop-slice l = map (λ n. n.now) l.names.items
    ≡ map (λ n. n.now) l.initial.names.items ++ map (λ (slice : SliceCell). slice.name) (filter (λ (slice : SliceCell). list_any (bits_of_list l.flips) slice.bits) (take l.slice-index l.slices))
