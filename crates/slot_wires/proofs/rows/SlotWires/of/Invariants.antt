use Rattle.std.proofs.Common.{◌≡◌, length, map, take}
use Rattle.grouped.specs.Rows.{AreEnds, rows_from}
use Rattle.slot_wires.specs.Numbers.{slot_numbers}
use Rattle.slot_wires.proofs.rows.SlotWires.of.Given as goal

-- the rows of the tiles so far
abbrev pub invariant-loop-number : goal.invariant-loop-number
invariant-loop-number l = record {
  ends : AreEnds 0 l.ends.items (length l.numbers.items);
  rows : rows_from 0 l.ends.items l.numbers.items ≡ map (slot_numbers l.device l.wires) (take l.number l.tiles);
}
