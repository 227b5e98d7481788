use Rattle.std.proofs.Common.{◌≡◌, take}
use Rattle.database_names.proofs.names.enum_names.Given as goal

-- those so far
abbrev pub invariant-loop-setting : goal.invariant-loop-setting
invariant-loop-setting l = l.each.items ≡ take l.setting-index l.enums
