use Rattle.std.proofs.Common.{◌≡◌, true, take, bytes_eq}
use Rattle.std.specs.List.{list_all}
use Rattle.std.specs.Set.{is_member}
use Rattle.json_forms.specs.KindRules.{register_settings_pass}
use Rattle.cell_profile.proofs.rules.all_registers_stand.Given as goal

-- the registers so far pass
abbrev pub invariant-loop-register : goal.invariant-loop-register
invariant-loop-register l = list_all (register_settings_pass (is_member bytes_eq l.settings)) (take l.register-index l.registers) ≡ true
