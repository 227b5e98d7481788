use Rattle.std.proofs.Common.{option_copied, take}
use Rattle.fabric.specs.Wires.{name_cmp}
use Rattle.patterns.specs.Bits.{bits_of_list}
use Rattle.rr_ids.specs.Domains.{domain_of}
use Rattle.bad_bits.specs.Least.{LeastOrNone, NamesOf, slice_name}
use Rattle.bad_bits.proofs.touched.least_slice.Given as goal

-- the least of the slices so far
abbrev pub invariant-loop-slice : goal.invariant-loop-slice
invariant-loop-slice l = LeastOrNone name_cmp (NamesOf (slice_name (bits_of_list l.flips) (domain_of l.domain)) (take l.slice-index l.slices)) (option_copied l.least)
