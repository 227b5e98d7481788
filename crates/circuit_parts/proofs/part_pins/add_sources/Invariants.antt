use Rattle.std.proofs.Common.{◌≡◌, ◌++◌, drop, length}
use Rattle.std.specs.List.{flat_map}
use Rattle.circuit.specs.Pins.{source_pins}
use Rattle.circuit_parts.specs.Flat.{starts_from}
use Rattle.circuit_parts.proofs.part_pins.add_sources.Given as goal

-- the pins so far, those of the parts that are left, and where all begin
abbrev pub invariant-loop-source : goal.invariant-loop-source
invariant-loop-source l = record {
  pins : l.pins.items ++ flat_map source_pins (drop l.source-index l.sources) ≡ flat_map source_pins l.sources;
  starts : l.starts.items ++ starts_from (length l.pins.items) (drop l.source-index l.sources) ≡ starts_from 0 l.sources;
}
