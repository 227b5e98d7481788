use Rattle.std.proofs.Common.{◌≡◌, ◌++◌, take}
use Rattle.std.specs.Prelude.{flat_map}
use Rattle.device_names.specs.TileNames.{fixed_names}
use Rattle.device_names.proofs.routing_names.add_fixed.Given as goal

-- the names so far
abbrev pub invariant-loop-connection : goal.invariant-loop-connection
invariant-loop-connection l = l.names ≡ l.initial.names ++ flat_map (fixed_names l.rules) (take l.connection-index l.fixed)
