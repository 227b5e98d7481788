use Rattle.std.proofs.Common.{◌≡◌, map, take}
use Rattle.name_numbers.specs.Numbers.{number_of}
use Rattle.tile_parts.proofs.slots.source_slots.Given as goal

-- the slots so far
abbrev pub invariant-loop-arc : goal.invariant-loop-arc
invariant-loop-arc l = l.slots.items ≡ map (λ a. number_of l.kind.names a.source) (take l.arc-index l.arcs)
