use Rattle.std.proofs.Common.{◌≡◌, ◌<◌, ◌^◌, ◌++◌, drop, length}
use Rattle.record_laws.specs.KeptBits.{pairs_from}
use Rattle.mux_bits.proofs.rows.pairs_of.Given as goal

-- the pairs so far, and those of the muxes that are left
abbrev pub invariant-loop-number : goal.invariant-loop-number
invariant-loop-number g l = record {
  all : l.pairs.items ++ pairs_from (g.D.TileBits.device l.device) l.number (drop l.number l.muxes) ≡ pairs_from (g.D.TileBits.device l.device) 0 l.muxes;
  few : length l.pairs.items < 2 ^ 32;
}
