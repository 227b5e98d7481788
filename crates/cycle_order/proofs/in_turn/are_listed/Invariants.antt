use Rattle.std.proofs.Common.{ℕ, ◌<◌, get_or}
use Rattle.words.specs.Members.{In}
use Rattle.cycle_order.proofs.in_turn.are_listed.Given as goal

-- the nodes so far are listed
abbrev pub invariant-loop-node : goal.invariant-loop-node
invariant-loop-node l = (k : ℕ) → k < l.node-index → In l.listed.nodes (get_or l.row k 0)
