use Rattle.std.proofs.Common.{◌≡◌, map, take}
use Rattle.type_shapes.specs.Shapes.{type_shapes}
use Rattle.type_shapes.proofs.shapes.shapes_of.Given as goal

-- the types so far
abbrev pub invariant-loop-kind : goal.invariant-loop-kind
invariant-loop-kind l = l.shapes.items ≡ map type_shapes (take l.kind-index l.types)
