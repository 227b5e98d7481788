use Rattle.std.proofs.Common.{◌≡◌, ◌++◌, filter, map, take}
use Rattle.std.specs.List.{list_any}
use Rattle.patterns.specs.Bits.{bits_of_list}
use Rattle.circuit.specs.Cells.{PadCell}
use Rattle.upset_effect.proofs.touched.add_pads.Given as goal

-- the names so far
abbrev pub invariant-loop-pad : goal.invariant-loop-pad
invariant-loop-pad l = map (λ n. n.now) l.names.items
    ≡ map (λ n. n.now) l.initial.names.items ++ map (λ (pad : PadCell). pad.name) (filter (λ (pad : PadCell). list_any (bits_of_list l.flips) pad.bits) (take l.pad-index l.pads))
