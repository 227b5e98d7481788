use Rattle.std.proofs.Common.{◌≡◌, ◌++◌, map, take}
use Rattle.wire_names.specs.Kept.{number_of_name}
use Rattle.wire_names.specs.Slots.{slot_at}
use Rattle.slot_wires.proofs.numbers.add_at_place.Given as goal

-- the numbers of the slots so far
abbrev pub invariant-loop-slot : goal.invariant-loop-slot
invariant-loop-slot l = l.numbers.items ≡ l.initial.numbers.items ++ map (λ slot. number_of_name l.wires (slot_at (l.row, l.col) slot)) (take l.slot-index l.slots)
