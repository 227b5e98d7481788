use Rattle.std.proofs.Common.{◌≡◌, ◌++◌, take}
use Rattle.std.specs.Prelude.{flat_map}
use Rattle.device_names.specs.TileNames.{register_inputs}
use Rattle.device_names.proofs.cell_names.add_registers_inputs.Given as goal

-- the names so far
abbrev pub invariant-loop-register : goal.invariant-loop-register
invariant-loop-register l = l.names ≡ l.initial.names ++ flat_map register_inputs (take l.register-index l.registers)
