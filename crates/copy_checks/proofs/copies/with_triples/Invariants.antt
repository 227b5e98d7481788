use Rattle.std.proofs.Common.{◌≡◌, None}
use Rattle.circuit.specs.Circuits.{Circuit}
use Rattle.copy_checks.specs.Given.{IsOf}
use Rattle.copy_checks.specs.Unlike.{WithTriples}
use Rattle.copy_checks.proofs.copies.with_triples.Given as goal

-- the triples so far
abbrev pub invariant-loop-triple : goal.invariant-loop-triple
invariant-loop-triple l = (c : Circuit) → IsOf c l.design → c.side.triples ≡ l.triples → WithTriples c l.triples l.triple-index None l.found
