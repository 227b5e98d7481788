use Rattle.std.proofs.Common.{◌≡◌, ◌++◌, filter, map, take, bytes_eq}
use Rattle.device_names.specs.TileNames.{joined}
use Rattle.fixed_links.specs.Slots.{fixed_slots}
use Rattle.fixed_links.proofs.shapes.add_joins.Given as goal

-- the joins of the type so far
abbrev pub invariant-loop-join : goal.invariant-loop-join
invariant-loop-join l = l.slots.items ≡ l.initial.slots.items ++ map (λ j. fixed_slots l.kind.names (joined j)) (filter (λ j. bytes_eq j.tile l.name) (take l.join-index l.joins))
