use Rattle.std.proofs.Common.{◌≡◌, map, take}
use Rattle.type_bits.specs.TypeBits.{type_bits}
use Rattle.type_bits.proofs.gathered.bits_of_types.Given as goal

-- the bits of the types so far
abbrev pub invariant-loop-kind : goal.invariant-loop-kind
invariant-loop-kind l = l.bits.items ≡ map (type_bits l.rules) (take l.kind-index l.types)
