use Rattle.std.proofs.Common.{◌≡◌, true, take}
use Rattle.std.specs.List.{list_all}
use Rattle.json_forms.specs.KindRules.{is_own_wire, register_wires_pass}
use Rattle.cell_profile.proofs.rules.all_registers_are_own.Given as goal

-- the wires of the registers so far are of this chip
abbrev pub invariant-loop-register : goal.invariant-loop-register
invariant-loop-register l = list_all (register_wires_pass (is_own_wire l.other_chips)) (take l.register-index l.registers) ≡ true
