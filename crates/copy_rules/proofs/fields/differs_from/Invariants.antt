use Rattle.std.proofs.Common.{ℕ, ◌<◌, get_or}
use Rattle.circuit.specs.Circuits.{Circuit}
use Rattle.table_masks.specs.Least.{ShowsFeeds}
use Rattle.copy_rules.specs.Fields.{field_of}
use Rattle.copy_rules.specs.Copies.{DiffersAt}
use Rattle.copy_rules.proofs.fields.differs_from.Given as goal

-- no copy so far differs
abbrev pub invariant-loop-i : goal.invariant-loop-i
invariant-loop-i l = (c : Circuit) → ShowsFeeds c l.parts l.feeds l.triples → (m : ℕ) → m < l.i → DiffersAt c (field_of l.field) l.first (get_or l.copies m 0) → ⊥
