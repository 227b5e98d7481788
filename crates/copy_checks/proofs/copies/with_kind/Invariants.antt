use Rattle.std.proofs.Common.{ℕ, ◌<◌}
use Rattle.words.specs.Members.{In}
use Rattle.circuit.specs.Circuits.{Circuit}
use Rattle.copy_checks.specs.Given.{IsOf}
use Rattle.copy_checks.specs.Unlike.{Covers, Gains, kind_at}
use Rattle.copy_checks.proofs.copies.with_kind.Given as goal

-- the tables or registers so far
abbrev pub invariant-loop-number : goal.invariant-loop-number
invariant-loop-number l = (c : Circuit) → IsOf c l.design → In c.side.triples l.triple → Gains c l.fn.least l.found × ((n : ℕ) → n < l.number → Covers c l.triple (kind_at l.which n) l.found)
