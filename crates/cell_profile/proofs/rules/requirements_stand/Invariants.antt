use Rattle.std.proofs.Common.{◌≡◌, true, take, bytes_eq}
use Rattle.std.specs.List.{list_all}
use Rattle.std.specs.Set.{is_member}
use Rattle.records.specs.Profile.{Require}
use Rattle.cell_profile.proofs.rules.requirements_stand.Given as goal

-- the settings so far are among those of the kind
abbrev pub invariant-loop-require : goal.invariant-loop-require
invariant-loop-require l = list_all (λ (require : Require). is_member bytes_eq l.settings require.setting) (take l.require-index l.requirements) ≡ true
