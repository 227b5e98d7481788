-- Side files on MINI-A in which something is wrong.
use Rattle.std.specs.Prelude.{[], ◌∷◌, codes}
use Rattle.records.specs.Side.{D0, D1, D2, Side}
use Rattle.mini.specs.Toggle.{placed, toggle_side}

-- the toggle's without its outputs and their pads
abbrev pub without_outputs : Side
without_outputs = record toggle_side {
  pads = placed (codes "k0") (codes "R2C1:MCK") (codes "K0") D0 ∷ placed (codes "k1") (codes "R2C2:MCK") (codes "K0") D1 ∷ placed (codes "k2") (codes "R2C3:MCK") (codes "K0") D2 ∷ [];
  outputs = [];
}

-- the toggle's with its third slice in a tile that isn't there
abbrev pub misplaced : Side
misplaced = record toggle_side {
  slices = placed (codes "a0") (codes "R1C1:MLC") (codes "S0") D0 ∷ placed (codes "a1") (codes "R1C2:MLC") (codes "S0") D1 ∷ placed (codes "a2") (codes "R1C9:MLC") (codes "S0") D2 ∷ [];
}

-- the toggle's with its output pads as inputs
abbrev pub turned : Side
turned = record toggle_side { inputs = toggle_side.outputs; outputs = [] }
