use Rattle.std.proofs.Common.{◌≡◌, ◌++◌, None, map, take}
use Rattle.slot_wires.proofs.numbers.add_none.Given as goal

-- as many as slots so far
abbrev pub invariant-loop-slot : goal.invariant-loop-slot
invariant-loop-slot l = l.numbers.items ≡ l.initial.numbers.items ++ map (λ slot. None) (take l._slot-index l.slots)
