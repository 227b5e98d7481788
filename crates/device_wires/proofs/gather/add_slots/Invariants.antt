use Rattle.std.proofs.Common.{◌≡◌, take, filter_map}
use Rattle.fabric.specs.TileWires.{named_wire}
use Rattle.wire_names.specs.Slots.{slot_at}
use Rattle.device_wires.specs.Gathered.{gathered}
use Rattle.device_wires.proofs.gather.add_slots.Given as goal

-- the wires of the slots so far
abbrev pub invariant-loop-slot : goal.invariant-loop-slot
invariant-loop-slot l = l.wires ≡ gathered l.initial.wires (filter_map (λ slot. named_wire (slot_at (l.row, l.col) slot)) (take l.slot-index l.slots))
