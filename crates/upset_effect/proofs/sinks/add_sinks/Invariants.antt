use Rattle.std.proofs.Common.{◌≡◌, ◌++◌, flat_map, take}
use Rattle.upset_effect.specs.Driven.{sink_at}
use Rattle.upset_effect.proofs.sinks.add_sinks.Given as goal

-- the wires so far
abbrev pub invariant-loop-m : goal.invariant-loop-m
invariant-loop-m g l = l.sinks.items ≡ l.initial.sinks.items ++ flat_map (sink_at (g.G.NamedGraph.graph l.graph)) (take l.m-index l.muxes)
