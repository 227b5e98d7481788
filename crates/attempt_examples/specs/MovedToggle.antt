-- The toggle with its third slice moved to the fourth slice's tile: its table's word is the one line that goes there,
-- in a section that is made for it. The arc lines stay.
use Rattle.std.specs.Prelude.{[], ◌∷◌, codes, Option, option_map, option_and_then}
use Rattle.records.specs.Config.{Config}
use Rattle.records.specs.Profile.{SliceKind}
use Rattle.records.specs.Side.{D0, D1, D2, Side}
use Rattle.fabric.specs.Graph.{Graph}
use Rattle.cells.specs.Sites.{Site}
use Rattle.cells.specs.Faults.{site_of_slice}
use Rattle.attempts.specs.Moves.{Move}
use Rattle.attempts.specs.Candidates.{site_named}
use Rattle.mini.specs.MiniA.{mini_a}
use Rattle.mini.specs.Toggle.{majority, slice_text, clock_text, output_text, first_lines, second_lines, third_lines, placed, toggle_side}

abbrev pub third_moves : Move
third_moves = record { slice = codes "a2"; tile = codes "R1C4:MLC"; kind = codes "S0" }

-- what is made of the present and the new site of a slice of the toggle
abbrev pub at_sites : {X : Type 0} → Graph → Move → (Site SliceKind → Site SliceKind → X) → Option X
at_sites g m make = option_and_then (λ old. option_map (make old) (site_named g mini_a.profile m.tile m.kind)) (site_of_slice g mini_a.profile toggle_side m.slice)

abbrev pub moved_toggle : Config
moved_toggle = record {
  device = codes "MINI-A";
  heads = [];
  tiles =
      output_text (codes "R0C1:MIO")
      ∷ output_text (codes "R0C2:MIO")
      ∷ output_text (codes "R0C3:MIO")
      ∷ slice_text (codes "R1C1:MLC") first_lines
      ∷ slice_text (codes "R1C2:MLC") second_lines
      ∷ record { tile = codes "R1C3:MLC"; line = 0; arcs = third_lines; words = []; enums = []; unknowns = [] }
      ∷ record { tile = codes "R1C4:MLC"; line = 0; arcs = []; words = majority ∷ []; enums = []; unknowns = [] }
      ∷ clock_text (codes "R2C1:MCK") (codes "G_CK0")
      ∷ clock_text (codes "R2C2:MCK") (codes "G_CK1")
      ∷ clock_text (codes "R2C3:MCK") (codes "G_CK2")
      ∷ [];
}

abbrev pub moved_toggle_side : Side
moved_toggle_side = record {
  slices = placed (codes "a0") (codes "R1C1:MLC") (codes "S0") D0 ∷ placed (codes "a1") (codes "R1C2:MLC") (codes "S0") D1 ∷ placed (codes "a2") (codes "R1C4:MLC") (codes "S0") D2 ∷ [];
  pads = toggle_side.pads;
  triples = toggle_side.triples;
  inputs = toggle_side.inputs;
  outputs = toggle_side.outputs;
  clocks = toggle_side.clocks;
  voters = toggle_side.voters;
}
