use Rattle.std.proofs.Common.{◌≡◌, map, take}
use Rattle.side_form.specs.Side.{cell_names}
use Rattle.side_file.proofs.names.cell_names.Given as goal

-- the names so far
abbrev pub invariant-loop-cell : goal.invariant-loop-cell
invariant-loop-cell l = map (λ n. n.now) l.names.items ≡ cell_names (take l.cell-index l.cells)
