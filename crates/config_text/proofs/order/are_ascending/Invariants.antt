use Rattle.std.proofs.Common.{◌≡◌, length}
use Rattle.config_text.specs.Ascending.{are_ascending}
use Rattle.config_text.proofs.order.are_ascending.Given as goal

-- the arcs that were passed over ascend
abbrev pub invariant-loop-first : goal.invariant-loop-first
invariant-loop-first l = are_ascending l.rest ≡ are_ascending l.arcs

abbrev pub decreases-loop-first : goal.decreases-loop-first
decreases-loop-first l = length l.rest
