use Rattle.std.proofs.Common.{◌≡◌, false, take}
use Rattle.std.specs.List.{list_any}
use Rattle.json_forms.specs.KindRules as rules
use Rattle.cell_profile.proofs.rules.takes_out.Given as goal

-- no case so far takes it
abbrev pub invariant-loop-case : goal.invariant-loop-case
invariant-loop-case l = list_any rules.takes_out (take l.case-index l.cases) ≡ false
