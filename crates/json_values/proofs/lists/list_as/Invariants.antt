use Rattle.std.proofs.Common.{◌≡◌, map, drop}
use Rattle.serde_json.specs.View.{view}
use Rattle.json_forms.specs.Each.{each}
use Rattle.json_forms.specs.Parts.{list_of}
use Rattle.json_forms.proofs.OneByOne.{joined}
use Rattle.json_values.proofs.lists.list_as.Given as goal

-- the values so far, and what is left
abbrev pub invariant-loop-element : goal.invariant-loop-element
invariant-loop-element g l =
    joined l.list (each g.T.FromJson.value_in (map view (drop l.element-index l.values))) ≡ list_of g.T.FromJson.value_in (view l.value)
