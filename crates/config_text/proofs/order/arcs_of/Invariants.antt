use Rattle.std.proofs.Common.{◌≡◌, ◌++◌}
use Rattle.config_text.specs.Entries.{arcs_at}
use Rattle.config_text.proofs.order.arcs_of.Given as goal

-- the arcs so far and those that are left are all arcs
abbrev pub invariant-loop-sink : goal.invariant-loop-sink
invariant-loop-sink l = l.arcs ++ arcs_at l.sink-iterator ≡ arcs_at l.fn.numbers.entries
