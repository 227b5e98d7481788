use Rattle.std.proofs.Common.{option_copied, take}
use Rattle.fabric.specs.Wires.{name_cmp}
use Rattle.patterns.specs.Bits.{bits_of_list}
use Rattle.rr_ids.specs.Domains.{domain_of}
use Rattle.bad_bits.specs.Least.{LeastOrNone, NamesOf, pad_name}
use Rattle.bad_bits.proofs.touched.least_pad.Given as goal

-- the least of the pads so far
abbrev pub invariant-loop-pad : goal.invariant-loop-pad
invariant-loop-pad l = LeastOrNone name_cmp (NamesOf (pad_name (bits_of_list l.flips) (domain_of l.domain)) (take l.pad-index l.pads)) (option_copied l.least)
