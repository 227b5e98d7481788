use Rattle.std.proofs.Common.{◌≡◌, [], take}
use Rattle.std.specs.Prelude.{flat_map}
use Rattle.device_wires.specs.Gathered.{gathered}
use Rattle.device_wires.specs.Slots.{slot_wires}
use Rattle.device_wires.proofs.gather.gather.Given as goal

-- the wires of the slots of the tiles so far
abbrev pub invariant-loop-number : goal.invariant-loop-number
invariant-loop-number l = l.wires ≡ gathered [] (flat_map (slot_wires l.device) (take l.number l.tiles))
