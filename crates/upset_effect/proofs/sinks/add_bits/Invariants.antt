use Rattle.std.proofs.Common.{◌≡◌, ◌++◌, flat_map, take}
use Rattle.upset_effect.specs.Driven.{bit_sinks}
use Rattle.upset_effect.proofs.sinks.add_bits.Given as goal

-- the wires so far
abbrev pub invariant-loop-b : goal.invariant-loop-b
invariant-loop-b g l = l.sinks.items ≡ l.initial.sinks.items ++ flat_map (bit_sinks (g.G.NamedGraph.graph l.graph)) (take l.b-index l.flips)
