use Rattle.std.proofs.Common.{◌≡◌, ◌++◌, map}
use Rattle.device_wires.specs.Keys.{wire_of}
use Rattle.device_wires.proofs.gathered.number_keys.Given as goal

-- the wires so far, before those of the keys that are left
abbrev pub invariant-loop-key : goal.invariant-loop-key
invariant-loop-key l = l.names ++ map wire_of l.key-iterator ≡ map wire_of l.keys.keys
