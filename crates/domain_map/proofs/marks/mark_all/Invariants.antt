use Rattle.std.proofs.Common.{◌≡◌, drop}
use Rattle.domain_map.specs.Labels.{marks_with}
use Rattle.domain_map.proofs.marks.mark_all.Given as goal

-- the rest, marked over what is marked, is all
abbrev pub invariant-loop-pin : goal.invariant-loop-pin
invariant-loop-pin l = marks_with l.marks (drop l.pin-index l.pins) ≡ marks_with l.fn.marks l.pins
