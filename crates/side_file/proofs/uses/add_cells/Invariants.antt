use Rattle.std.proofs.Common.{◌≡◌, ◌++◌, map, take}
use Rattle.side_file.proofs.uses.add_cells.Given as goal

-- the cells so far
abbrev pub invariant-loop-cell : goal.invariant-loop-cell
invariant-loop-cell l = map (λ c. c.now) l.all.items ≡ map (λ c. c.now) l.initial.all.items ++ take l.cell-index l.cells
