use Rattle.std.proofs.Common.{◌≡◌, ◌-◌}
use Rattle.std.specs.List.{list_all, range_with_len}
use Rattle.pin_rules.specs.Rules.{same_at}
use Rattle.pin_rules.proofs.tables.table_ignores.Given as goal

-- the rest of the addresses decides
abbrev pub invariant-loop-address : goal.invariant-loop-address
invariant-loop-address l = list_all (same_at l.table.word l.pin) (range_with_len l.address (l.count - l.address)) ≡ list_all (same_at l.table.word l.pin) (range_with_len 0 l.count)
