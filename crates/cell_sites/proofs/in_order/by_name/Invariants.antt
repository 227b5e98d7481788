use Rattle.std.proofs.Common.{◌≤◌, drop, length}
use Rattle.cell_sites.specs.Ordered.{HoldsInOrder}
use Rattle.cell_sites.proofs.in_order.by_name.Given as goal

-- the records behind those that are left are in order
abbrev pub invariant-loop-left : goal.invariant-loop-left
invariant-loop-left g l = record { within : l.left ≤ length l.items; held : HoldsInOrder g.T.Named.named l.left (drop l.left l.items) l.ordered.entries }

abbrev pub decreases-loop-left : goal.decreases-loop-left
decreases-loop-left g l = l.left
