use Rattle.std.proofs.Common.{◌≡◌, map, take}
use Rattle.record_laws.specs.KeptBits.{kept_bits}
use Rattle.kept_bits.proofs.gathered.bits_of_muxes.Given as goal

-- the rows so far
abbrev pub invariant-loop-mux : goal.invariant-loop-mux
invariant-loop-mux l = l.rows.items ≡ map (kept_bits l.rules) (take l.mux-index l.muxes)
