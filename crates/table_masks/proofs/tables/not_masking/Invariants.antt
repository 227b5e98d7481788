use Rattle.circuit.specs.Circuits.{Circuit}
use Rattle.table_masks.specs.Least.{LeastSoFar, Shows}
use Rattle.table_masks.proofs.tables.not_masking.Given as goal

-- the least of the parts so far
abbrev pub invariant-loop-place : goal.invariant-loop-place
invariant-loop-place l = (c : Circuit) → Shows c l.parts l.feeds l.triples l.read → LeastSoFar c l.read l.place l.least
