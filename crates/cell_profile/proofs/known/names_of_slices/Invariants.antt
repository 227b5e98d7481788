use Rattle.std.proofs.Common.{map, take}
use Rattle.json_forms.specs.KindRules.{slice_name}
use Rattle.cell_profile.specs.Known.{KnowsNames}
use Rattle.cell_profile.proofs.known.names_of_slices.Given as goal

-- the names so far
abbrev pub invariant-loop-slice : goal.invariant-loop-slice
invariant-loop-slice l = KnowsNames l.known (map slice_name (take l.slice-index l.slices))
