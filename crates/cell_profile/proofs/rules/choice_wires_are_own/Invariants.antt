use Rattle.std.proofs.Common.{◌≡◌, true, take}
use Rattle.std.specs.List.{list_all}
use Rattle.records.specs.Profile.{Case}
use Rattle.json_forms.specs.KindRules.{is_own_wire, take_wire_passes}
use Rattle.cell_profile.proofs.rules.choice_wires_are_own.Given as goal

-- the wires of the cases so far are of this chip
abbrev pub invariant-loop-case : goal.invariant-loop-case
invariant-loop-case l = list_all (λ (case : Case). take_wire_passes (is_own_wire l.other_chips) case.take) (take l.case-index l.cases) ≡ true
