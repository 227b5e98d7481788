use Rattle.std.proofs.Common.{map, take}
use Rattle.std.specs.List.{AllZip}
use Rattle.tile_types.specs.Slots.{IsSlotOf}
use Rattle.tile_types.proofs.slots.slots_of.Given as goal

-- the slots of the names so far
abbrev pub invariant-loop-name : goal.invariant-loop-name
invariant-loop-name l = AllZip (IsSlotOf l.rules) (map (λ name. name.now) (take l.name-index l.names)) l.slots.items
