use Rattle.std.proofs.Common.{◌≡◌, length}
use Rattle.config_text.specs.Ascending.{are_placed}
use Rattle.config_text.proofs.order.are_placed.Given as goal

-- the sections that were passed over are placed
abbrev pub invariant-loop-first : goal.invariant-loop-first
invariant-loop-first l = are_placed l.rest ≡ are_placed l.sections

abbrev pub decreases-loop-first : goal.decreases-loop-first
decreases-loop-first l = length l.rest
