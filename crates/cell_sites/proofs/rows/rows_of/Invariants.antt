use Rattle.std.proofs.Common.{map, take}
use Rattle.cell_sites.specs.Rows.{HoldsRows}
use Rattle.cell_sites.proofs.rows.rows_of.Given as goal

-- the records so far
abbrev pub invariant-loop-item : goal.invariant-loop-item
invariant-loop-item g l = HoldsRows g.T.Paired.first (map (λ i. i.now) (take l.item-index l.items)) l.rows
