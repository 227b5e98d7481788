use Rattle.std.proofs.Common.{◌≡◌, ◌++◌, drop}
use Rattle.fixed_links.specs.Slots.{outputs_in}
use Rattle.fixed_links.proofs.slots.add_outputs.Given as goal

-- the outputs so far, and what is left
abbrev pub invariant-loop-slot : goal.invariant-loop-slot
invariant-loop-slot l = l.outputs.items ++ outputs_in l.row (drop l.slot-index l.slots) ≡ l.fn.outputs.items ++ outputs_in l.row l.slots
