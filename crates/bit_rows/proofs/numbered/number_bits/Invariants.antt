use Rattle.std.proofs.Common.{◌≤◌, length, take}
use Rattle.bit_rows.specs.Numbered.{AreNumbered}
use Rattle.bit_rows.proofs.numbered.number_bits.Given as goal

-- the bits and numbers of the pairs so far
abbrev pub invariant-loop-pair : goal.invariant-loop-pair
invariant-loop-pair l = record {
  are : AreNumbered (take l.pair-index l.pairs) l.bits.items l.numbers.items;
  few : length l.bits.items ≤ l.pair-index;
}
