use Rattle.std.proofs.Common.{◌≡◌, ◌++◌, take, filter, bytes_eq}
use Rattle.std.specs.Prelude.{flat_map}
use Rattle.device_names.specs.TileNames.{fixed_names, joined}
use Rattle.device_names.proofs.routing_names.add_joins.Given as goal

-- the names so far
abbrev pub invariant-loop-join : goal.invariant-loop-join
invariant-loop-join l = l.names ≡ l.initial.names ++ flat_map (λ j. fixed_names l.rules (joined j)) (filter (λ j. bytes_eq j.tile l.kind) (take l.join-index l.joins))
