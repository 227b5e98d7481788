-- The cells of the corridor's image: nine slices with a table of one pin each, six input pads and six output pads.
use Rattle.std.specs.Prelude.{ℕ, List, [], ◌∷◌, codes}
use Rattle.records.specs.Side.{Domain, D0, D1, D2}
use Rattle.fabric.specs.Graph.{Graph}
use Rattle.circuit.specs.Cells.{SliceCell, InputPad, OutputPad, PadCell, Cells}
use Rattle.mini.specs.ToggleCells.{wire_at, tile_bits, pad_at}

-- the slice of a column, whose table is its pin itself
abbrev pub buffer_at : Graph → List ℕ → Domain → ℕ → SliceCell
buffer_at g name domain column = record {
  name = name;
  domain = domain;
  tables = record { word = 2; pins = wire_at g 1 column (codes "D") ∷ []; out = wire_at g 1 column (codes "F") } ∷ [];
  registers = [];
  bits = tile_bits 1 column 0 (0 ∷ 1 ∷ []);
}

abbrev pub in_pad : Graph → List ℕ → Domain → ℕ → PadCell
in_pad g name domain column = pad_at g name domain InputPad 0 column (codes "PI") (0 ∷ 1 ∷ [])

abbrev pub out_pad : Graph → List ℕ → Domain → ℕ → PadCell
out_pad g name domain column = pad_at g name domain OutputPad 0 column (codes "PO") (0 ∷ 1 ∷ [])

abbrev pub corridor_cells : Graph → Cells
corridor_cells g = record {
  slices =
      buffer_at g (codes "u0") D0 1
      ∷ buffer_at g (codes "u1") D1 7
      ∷ buffer_at g (codes "u2") D2 12
      ∷ buffer_at g (codes "v0") D0 2
      ∷ buffer_at g (codes "v1") D1 6
      ∷ buffer_at g (codes "v2") D2 11
      ∷ buffer_at g (codes "w0") D0 3
      ∷ buffer_at g (codes "w1") D1 8
      ∷ buffer_at g (codes "w2") D2 13
      ∷ [];
  pads =
      in_pad g (codes "i0") D0 1
      ∷ in_pad g (codes "i1") D1 7
      ∷ in_pad g (codes "i2") D2 12
      ∷ in_pad g (codes "j0") D0 2
      ∷ in_pad g (codes "j1") D1 6
      ∷ in_pad g (codes "j2") D2 11
      ∷ out_pad g (codes "o0") D0 3
      ∷ out_pad g (codes "o1") D1 8
      ∷ out_pad g (codes "o2") D2 13
      ∷ out_pad g (codes "p0") D0 4
      ∷ out_pad g (codes "p1") D1 9
      ∷ out_pad g (codes "p2") D2 14
      ∷ [];
}
