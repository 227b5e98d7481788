use Rattle.std.proofs.Common.{◌≡◌, ◌++◌, drop}
use Rattle.circuit.specs.Parts.{numbered, table_source}
use Rattle.circuit_parts.proofs.part_sources.add_tables.Given as goal

-- the parts so far, and the tables that are left
abbrev pub invariant-loop-number : goal.invariant-loop-number
invariant-loop-number l = l.sources.items ++ numbered (table_source l.slice) l.number (drop l.number l.table-items) ≡ l.fn.sources.items ++ numbered (table_source l.slice) 0 l.table-items
