use Rattle.std.proofs.Common.{◌≡◌, ◌++◌, take}
use Rattle.std.specs.Prelude.{flat_map}
use Rattle.device_names.specs.TileNames.{mux_names}
use Rattle.device_names.proofs.routing_names.add_muxes.Given as goal

-- the names so far
abbrev pub invariant-loop-mux : goal.invariant-loop-mux
invariant-loop-mux l = l.names ≡ l.initial.names ++ flat_map (mux_names l.rules) (take l.mux-index l.muxes)
