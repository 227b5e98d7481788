use Rattle.std.proofs.Common.{◌≡◌, ◌++◌, drop}
use Rattle.record_laws.specs.KeptBits.{pairs_in}
use Rattle.kept_bits.proofs.moved.add_pairs.Given as goal

-- the pairs so far, and what is left
abbrev pub invariant-loop-bit : goal.invariant-loop-bit
invariant-loop-bit l = l.pairs.items ++ pairs_in l.mux l.tile (drop l.bit-index l.bits) ≡ l.fn.pairs.items ++ pairs_in l.mux l.tile l.bits
