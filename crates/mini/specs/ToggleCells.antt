-- The cells of the toggle's image: three slices with a table and a register each, three clock pads and three
-- output pads. The bits of a slice are those of its mode and its word, the bits of a pad those of its mode.
use Rattle.std.specs.Prelude.{ℕ, ◌+◌, ◌*◌, false, pos, List, [], ◌∷◌, ◌++◌, map, unwrap_or, codes}
use Rattle.patterns.specs.Bits.{DeviceBit}
use Rattle.records.specs.Side.{Domain, D0, D1, D2}
use Rattle.fabric.specs.Wires.{Local}
use Rattle.fabric.specs.Graph.{Graph}
use Rattle.fabric.specs.GraphOf.{number_of}
use Rattle.circuit.specs.Cells.{InputWire, InputZero, InputOne, SliceCell, Role, OutputPad, ClockPad, PadCell, Cells}

-- the number of a local wire
abbrev pub wire_at : Graph → ℕ → ℕ → List ℕ → ℕ
wire_at g row column base = unwrap_or (number_of g.wires (Local (pos row) (pos column) base)) 0

-- the device bits of a frame of a tile at a row and a column
abbrev pub tile_bits : ℕ → ℕ → ℕ → List ℕ → List DeviceBit
tile_bits row column frame bits = map (λ b. record { frame = 16 * column + frame; bit = 8 * row + b }) bits

abbrev pub eight : List ℕ
eight = 0 ∷ 1 ∷ 2 ∷ 3 ∷ 4 ∷ 5 ∷ 6 ∷ 7 ∷ []

-- the slice of a column, whose table is the inverted majority of its first three pins
abbrev pub slice_at : Graph → List ℕ → Domain → ℕ → SliceCell
slice_at g name domain column = record {
  name = name;
  domain = domain;
  tables =
      record {
        word = 0x1717;
        pins = wire_at g 1 column (codes "A") ∷ wire_at g 1 column (codes "B") ∷ wire_at g 1 column (codes "C") ∷ wire_at g 1 column (codes "D") ∷ [];
        out = wire_at g 1 column (codes "F");
      } ∷ [];
  registers =
      record {
        input = InputWire (wire_at g 1 column (codes "F"));
        enable = InputOne;
        reset = InputZero;
        set = false;
        clock = InputWire (wire_at g 1 column (codes "CK"));
        out = wire_at g 1 column (codes "Q");
      } ∷ [];
  bits = tile_bits 1 column 2 (6 ∷ []) ++ tile_bits 1 column 0 eight ++ tile_bits 1 column 1 eight;
}

abbrev pub pad_at : Graph → List ℕ → Domain → Role → ℕ → ℕ → List ℕ → List ℕ → PadCell
pad_at g name domain role row column base bits = record { name = name; domain = domain; role = role; wire = wire_at g row column base; bits = tile_bits row column 1 bits }

abbrev pub output_at : Graph → List ℕ → Domain → ℕ → PadCell
output_at g name domain column = pad_at g name domain OutputPad 0 column (codes "PO") (0 ∷ 1 ∷ [])

abbrev pub clock_at : Graph → List ℕ → Domain → ℕ → PadCell
clock_at g name domain column = pad_at g name domain ClockPad 2 column (codes "KI") (0 ∷ [])

abbrev pub toggle_slices : Graph → List SliceCell
toggle_slices g = slice_at g (codes "a0") D0 1 ∷ slice_at g (codes "a1") D1 2 ∷ slice_at g (codes "a2") D2 3 ∷ []

abbrev pub toggle_cells : Graph → Cells
toggle_cells g = record {
  slices = toggle_slices g;
  pads =
      clock_at g (codes "k0") D0 1
      ∷ clock_at g (codes "k1") D1 2
      ∷ clock_at g (codes "k2") D2 3
      ∷ output_at g (codes "o0") D0 1
      ∷ output_at g (codes "o1") D1 2
      ∷ output_at g (codes "o2") D2 3
      ∷ [];
}
