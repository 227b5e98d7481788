use Rattle.std.proofs.Common.{◌≡◌, ◌++◌, map, take}
use Rattle.device_names.proofs.routing_names.add_sources.Given as goal

-- the names so far
abbrev pub invariant-loop-arc : goal.invariant-loop-arc
invariant-loop-arc l = l.names ≡ l.initial.names ++ map (λ arc. arc.source) (take l.arc-index l.arcs)
