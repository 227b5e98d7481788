use Rattle.std.proofs.Common.{◌≡◌, length}
use Rattle.records.specs.Side.{Side}
use Rattle.circuit.specs.Parts.{sources}
use Rattle.part_triples.specs.Numbers.{numbers_of}
use Rattle.table_masks.specs.Pins.{PinsTold, fed_by}
use Rattle.table_masks.proofs.pins.table_pins.Given as goal

-- the pins so far
abbrev pub invariant-loop-place : goal.invariant-loop-place
invariant-loop-place l = record {
  long : length l.pins.items ≡ l.place;
  told : (side : Side) → l.triples ≡ numbers_of side (sources l.parts) → PinsTold side (fed_by (sources l.parts) l.feeds) l.pins.items;
}
