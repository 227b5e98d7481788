use Rattle.std.proofs.Common.{◌≡◌, drop, flat_map}
use Rattle.record_laws.specs.KeptBits.{arc_bits, put_in}
use Rattle.kept_bits.proofs.gathered.put_arcs.Given as goal

-- the bits so far, and those of the arcs that are left
abbrev pub invariant-loop-arc : goal.invariant-loop-arc
invariant-loop-arc l = put_in l.bits.keys (flat_map (arc_bits l.rules) (drop l.arc-index l.arcs)) ≡ put_in l.initial.bits.keys (flat_map (arc_bits l.rules) l.arcs)
