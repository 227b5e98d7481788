use Rattle.std.proofs.Common.{◌≡◌, map, drop}
use Rattle.serde_json.specs.View.{view}
use Rattle.json_forms.specs.Each.{each}
use Rattle.json_forms.specs.Choices.{case_in}
use Rattle.json_forms.proofs.OneByOne.{joined}
use Rattle.cell_profile.specs.Takes.{take_for}
use Rattle.cell_profile.proofs.choices.read_cases.Given as goal

-- the cases so far, and what is left
abbrev pub invariant-loop-value : goal.invariant-loop-value
invariant-loop-value l =
    joined l.cases (each (case_in l.has_setting (take_for l.purpose)) (map view (drop l.value-index l.values)))
    ≡ each (case_in l.has_setting (take_for l.purpose)) (map view l.values)
