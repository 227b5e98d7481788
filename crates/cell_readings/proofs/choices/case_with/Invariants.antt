use Rattle.std.proofs.Common.{◌≡◌, drop}
use Rattle.cells.specs.Takes.{case_with}
use Rattle.cell_readings.proofs.choices.case_with.Given as goal

-- the first of those that are left is the first of all
abbrev pub invariant-loop-case : goal.invariant-loop-case
invariant-loop-case l = case_with (drop l.case-index l.cases) l.value ≡ case_with l.cases l.value
