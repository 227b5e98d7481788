use Rattle.std.proofs.Common.{◌≡◌, ◌++◌, drop}
use Rattle.circuit.specs.Parts.{sources}
use Rattle.pin_rules.specs.Owners.{owners_from}
use Rattle.pin_rules.proofs.owners.add_parts.Given as goal

-- the owners so far, with those of the rest, are all
abbrev pub invariant-loop-place : goal.invariant-loop-place
invariant-loop-place l = l.owners.items ++ owners_from l.place (drop l.place (sources l.parts)) ≡ l.fn.owners.items ++ owners_from 0 (sources l.parts)
