use Rattle.std.proofs.Common.{◌≡◌, length, take, sum_by}
use Rattle.cells_known.specs.Counted.{capped}
use Rattle.cells_known.proofs.counts.table_pins.Given as goal

-- the pins of the tables so far
abbrev pub invariant-loop-table : goal.invariant-loop-table
invariant-loop-table l = l.count ≡ capped (sum_by (λ t. length t.pins) (take l.table-index l.tables))
