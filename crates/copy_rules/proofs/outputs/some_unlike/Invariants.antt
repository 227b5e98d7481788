use Rattle.std.proofs.Common.{ℕ, ◌<◌, get_or}
use Rattle.circuit.specs.Circuits.{Circuit}
use Rattle.table_masks.specs.Least.{ShowsFeeds}
use Rattle.copy_rules.specs.Outputs.{UnlikeFrom}
use Rattle.copy_rules.proofs.outputs.some_unlike.Given as goal

-- no pin so far is fed otherwise than another one
abbrev pub invariant-loop-i : goal.invariant-loop-i
invariant-loop-i l = (c : Circuit) → ShowsFeeds c l.parts l.feeds l.triples → (m : ℕ) → m < l.i → UnlikeFrom c l.pins (get_or l.pins m 0) → ⊥
