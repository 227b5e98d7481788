use Rattle.std.proofs.Common.{◌≡◌, ◌++◌, map, take}
use Rattle.fixed_links.specs.Slots.{fixed_slots}
use Rattle.fixed_links.proofs.shapes.add_fixed.Given as goal

-- the connections so far
abbrev pub invariant-loop-connection : goal.invariant-loop-connection
invariant-loop-connection l = l.slots.items ≡ l.initial.slots.items ++ map (fixed_slots l.kind.names) (take l.connection-index l.fixed)
