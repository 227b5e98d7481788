-- MINI-A with a fault of its own.
use Rattle.std.specs.Prelude.{[], ◌∷◌, map, codes, slice_set}
use Rattle.records.specs.Profile.{TableKind, SliceKind, Profile}
use Rattle.fabric.specs.Graph.{Graph}
use Rattle.mini.specs.MiniA.{mini_a}
use Rattle.cells_examples.specs.Kinds.{logic, carry, with_mode}

-- the profile with three pins in place of four at the table
abbrev pub three_pins : TableKind → TableKind
three_pins t = record t { pins = codes "A" ∷ codes "B" ∷ codes "C" ∷ [] }

abbrev pub with_three_pins : SliceKind → SliceKind
with_three_pins k = record k { tables = map three_pins k.tables }

abbrev pub narrow : Profile
narrow = record mini_a.profile { slices = map with_three_pins mini_a.profile.slices }

-- a graph in which the mode of the third slice, in tile 6, has another bit
abbrev pub with_other_mode : Graph → Graph
with_other_mode g = record g { settings = slice_set g.settings 6 (with_mode (logic ∷ carry 7 ∷ [])) }
