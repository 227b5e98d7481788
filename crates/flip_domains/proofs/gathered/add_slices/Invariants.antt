use Rattle.std.proofs.Common.{take}
use Rattle.patterns.specs.Bits.{bits_of_list}
use Rattle.flip_domains.proofs.Flipping.{SliceHas}
use Rattle.flip_domains.specs.Sets.{Gains}
use Rattle.flip_domains.proofs.Gaining.{OneOf}
use Rattle.flip_domains.proofs.gathered.add_slices.Given as goal

-- the domains so far
abbrev pub invariant-loop-slice : goal.invariant-loop-slice
invariant-loop-slice l = Gains l.initial.domains l.domains (OneOf (SliceHas (bits_of_list l.flips)) (take l.slice-index l.slices))
