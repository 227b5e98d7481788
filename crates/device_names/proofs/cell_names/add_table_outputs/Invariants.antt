use Rattle.std.proofs.Common.{◌≡◌, ◌++◌, map, take}
use Rattle.device_names.proofs.cell_names.add_table_outputs.Given as goal

-- the names so far
abbrev pub invariant-loop-table : goal.invariant-loop-table
invariant-loop-table l = l.names ≡ l.initial.names ++ map (λ t. t.out) (take l.table-index l.tables)
