use Rattle.std.proofs.Common.{◌≤◌, drop, length}
use Rattle.cell_sites.specs.Names.{HoldsFirst}
use Rattle.cell_sites.proofs.first_named.first_named.Given as goal

-- the records behind those that are left are there
abbrev pub invariant-loop-left : goal.invariant-loop-left
invariant-loop-left g l = record { within : l.left ≤ length l.items; held : HoldsFirst g.T.Named.named (drop l.left l.items) l.named }

abbrev pub decreases-loop-left : goal.decreases-loop-left
decreases-loop-left g l = l.left
