use Rattle.std.proofs.Common.{◌≡◌, drop, map}
use Rattle.record_laws.specs.KeptBits.{place_bit, put_in}
use Rattle.kept_bits.proofs.gathered.put_pattern.Given as goal

-- the bits so far, and those that are left
abbrev pub invariant-loop-p : goal.invariant-loop-p
invariant-loop-p l = put_in l.bits.keys (map place_bit (drop l.p-index l.pattern)) ≡ put_in l.initial.bits.keys (map place_bit l.pattern)
