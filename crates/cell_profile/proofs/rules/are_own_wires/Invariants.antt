use Rattle.std.proofs.Common.{◌≡◌, true, take}
use Rattle.std.specs.List.{list_all}
use Rattle.json_forms.specs.KindRules.{is_own_wire}
use Rattle.cell_profile.proofs.rules.are_own_wires.Given as goal

-- the wires so far are of this chip
abbrev pub invariant-loop-wire : goal.invariant-loop-wire
invariant-loop-wire l = list_all (is_own_wire l.other_chips) (take l.wire-index l.wires) ≡ true
