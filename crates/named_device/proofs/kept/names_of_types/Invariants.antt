use Rattle.std.proofs.Common.{◌≡◌, map, take}
use Rattle.named_device.proofs.kept.names_of_types.Given as goal

-- the databases so far
abbrev pub invariant-loop-kind : goal.invariant-loop-kind
invariant-loop-kind l = l.names.items ≡ map (λ t. t.db) (take l.kind-index l.types)
