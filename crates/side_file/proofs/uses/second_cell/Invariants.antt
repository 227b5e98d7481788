use Rattle.std.proofs.Common.{◌≡◌, map, take, drop}
use Rattle.words.specs.Firsts.{first_fault_after, first_fault}
use Rattle.side_form.specs.Side.{cell_fault}
use Rattle.side_file.specs.Known.{KnowsCells, KnowsSites}
use Rattle.side_file.proofs.uses.second_cell.Given as goal

-- the names and sites so far are known, and the first fault is among the cells that are left
abbrev pub invariant-loop-cell : goal.invariant-loop-cell
invariant-loop-cell l = record {
  names : KnowsCells l.names (map (λ c. c.now) (take l.cell-index l.cells));
  sites : KnowsSites l.sites (map (λ c. c.now) (take l.cell-index l.cells));
  rest : first_fault_after cell_fault (map (λ c. c.now) (take l.cell-index l.cells)) (map (λ c. c.now) (drop l.cell-index l.cells)) ≡ first_fault cell_fault (map (λ c. c.now) l.cells);
}
