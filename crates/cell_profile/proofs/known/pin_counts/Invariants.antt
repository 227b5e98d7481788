use Rattle.std.proofs.Common.{◌≡◌, map, take, length}
use Rattle.cell_profile.proofs.known.pin_counts.Given as goal

-- the counts so far
abbrev pub invariant-loop-table : goal.invariant-loop-table
invariant-loop-table l = l.counts ≡ map (λ table. length table.pins) (take l.table-index l.tables)
