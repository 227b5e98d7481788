use Rattle.std.proofs.Common.{◌≡◌, true, take}
use Rattle.std.specs.List.{list_all}
use Rattle.json_forms.specs.KindRules.{is_own_wire, table_wires_pass}
use Rattle.cell_profile.proofs.rules.all_tables_are_own.Given as goal

-- the wires of the tables so far are of this chip
abbrev pub invariant-loop-table : goal.invariant-loop-table
invariant-loop-table l = list_all (table_wires_pass (is_own_wire l.other_chips)) (take l.table-index l.tables) ≡ true
