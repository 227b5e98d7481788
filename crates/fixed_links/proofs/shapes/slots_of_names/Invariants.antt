use Rattle.std.proofs.Common.{◌≡◌, map, take}
use Rattle.name_numbers.specs.Numbers.{number_of}
use Rattle.fixed_links.proofs.shapes.slots_of_names.Given as goal

-- the slots of the names so far
abbrev pub invariant-loop-name : goal.invariant-loop-name
invariant-loop-name l = l.slots.items ≡ map (λ name. number_of l.kind.names name.now) (take l.name-index l.names)
