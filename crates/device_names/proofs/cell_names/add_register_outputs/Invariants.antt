use Rattle.std.proofs.Common.{◌≡◌, ◌++◌, map, take}
use Rattle.device_names.proofs.cell_names.add_register_outputs.Given as goal

-- the names so far
abbrev pub invariant-loop-register : goal.invariant-loop-register
invariant-loop-register l = l.names ≡ l.initial.names ++ map (λ r. r.out) (take l.register-index l.registers)
