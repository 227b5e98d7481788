use Rattle.std.proofs.Common.{◌≡◌, ◌++◌, take}
use Rattle.std.specs.Prelude.{flat_map}
use Rattle.device_names.proofs.cell_names.add_pins.Given as goal

-- the names so far
abbrev pub invariant-loop-table : goal.invariant-loop-table
invariant-loop-table l = l.names ≡ l.initial.names ++ flat_map (λ t. t.pins) (take l.table-index l.tables)
