use Rattle.std.proofs.Common.{take}
use Rattle.patterns.specs.Bits.{bits_of_list}
use Rattle.flip_domains.proofs.Flipping.{PadHas}
use Rattle.flip_domains.specs.Sets.{Gains}
use Rattle.flip_domains.proofs.Gaining.{OneOf}
use Rattle.flip_domains.proofs.gathered.add_pads.Given as goal

-- the domains so far
abbrev pub invariant-loop-pad : goal.invariant-loop-pad
invariant-loop-pad l = Gains l.initial.domains l.domains (OneOf (PadHas (bits_of_list l.flips)) (take l.pad-index l.pads))
