use Rattle.std.proofs.Common.{◌≡◌, None, option_map, drop}
use Rattle.design_checks.specs.LineChecks.{unknown_faults}
use Rattle.text_image.specs.Faults.{fault_view, first_behind}
use Rattle.text_image.proofs.lines.unknowns_fault.Given as goal

-- the first so far, and what is left
abbrev pub invariant-loop-line : goal.invariant-loop-line
invariant-loop-line l = first_behind (unknown_faults l.tile) (option_map fault_view l.found) (drop l.line-index l.unknowns) ≡ first_behind (unknown_faults l.tile) None l.unknowns
