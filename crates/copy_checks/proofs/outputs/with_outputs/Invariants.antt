use Rattle.std.proofs.Common.{◌≡◌}
use Rattle.circuit.specs.Circuits.{Circuit}
use Rattle.copy_checks.specs.Given.{IsOf}
use Rattle.copy_checks.specs.Pads.{HoldsPads}
use Rattle.copy_checks.specs.Unlike.{WithOutputs}
use Rattle.copy_checks.proofs.outputs.with_outputs.Given as goal

-- the triples so far
abbrev pub invariant-loop-triple : goal.invariant-loop-triple
invariant-loop-triple l = (c : Circuit) → IsOf c l.design → HoldsPads l.design.parts.now l.pads → c.side.outputs ≡ l.triples → WithOutputs c l.triples l.triple-index l.fn.least l.found
