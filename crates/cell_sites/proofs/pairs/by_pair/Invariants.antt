use Rattle.std.proofs.Common.{◌≤◌, drop, length}
use Rattle.cell_sites.specs.Pairs.{HoldsPairs}
use Rattle.cell_sites.proofs.pairs.by_pair.Given as goal

-- the records behind those that are left are there
abbrev pub invariant-loop-left : goal.invariant-loop-left
invariant-loop-left g l = record { within : l.left ≤ length l.items; held : HoldsPairs g.T.Paired.first g.T.Paired.second (drop l.left l.items) l.by_pair }

abbrev pub decreases-loop-left : goal.decreases-loop-left
decreases-loop-left g l = l.left
