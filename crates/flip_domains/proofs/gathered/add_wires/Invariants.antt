use Rattle.std.proofs.Common.{take}
use Rattle.flip_domains.proofs.Flipping.{WireHas}
use Rattle.flip_domains.specs.Sets.{Gains}
use Rattle.flip_domains.proofs.Gaining.{OneOf}
use Rattle.flip_domains.proofs.gathered.add_wires.Given as goal

-- the domains so far
abbrev pub invariant-loop-w : goal.invariant-loop-w
invariant-loop-w l = Gains l.initial.domains l.domains (OneOf (WireHas l.labels) (take l.w-index l.wires))
