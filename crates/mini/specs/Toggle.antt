-- A triplicated toggle on MINI-A. In each of three slices the table is the inverted majority of the three
-- registers, and its register takes it; each copy's pad shows its own register. Pin A reads copy 2, pin B copy 0
-- and pin C copy 1. (Our own.)
use Rattle.std.specs.Prelude.{ℕ, true, false, List, [], ◌∷◌, codes}
use Rattle.records.specs.Side.{Domain, D0, D1, D2, Placed, Triple, Voter, Side}
use Rattle.records.specs.Config.{ArcLine, WordLine, TileText, Config}

-- lines carry no numbers here
abbrev pub line : List ℕ → List ℕ → ArcLine
line sink source = record { sink = sink; source = source; line = 0 }

-- `0001011100010111`, written with the highest bit first: the inverted majority of the first three pins
abbrev pub majority : WordLine
majority = record {
  name = codes "S0.K";
  bits = true ∷ true ∷ true ∷ false ∷ true ∷ false ∷ false ∷ false ∷ true ∷ true ∷ true ∷ false ∷ true ∷ false ∷ false ∷ false ∷ [];
  line = 0;
}

abbrev pub slice_text : List ℕ → List ArcLine → TileText
slice_text tile arcs = record { tile = tile; line = 0; arcs = arcs; words = majority ∷ []; enums = []; unknowns = [] }

abbrev pub pad_text : List ℕ → List ℕ → List ℕ → ArcLine → TileText
pad_text tile setting value arc =
    record { tile = tile; line = 0; arcs = arc ∷ []; words = []; enums = record { name = setting; value = value; line = 0 } ∷ []; unknowns = [] }

abbrev pub output_text : List ℕ → TileText
output_text tile = pad_text tile (codes "P0.DIR") (codes "OUTPUT") (line (codes "PO") (codes "S1_Q"))

abbrev pub clock_text : List ℕ → List ℕ → TileText
clock_text tile clock = pad_text tile (codes "K0.DIR") (codes "INPUT") (line clock (codes "KI"))

-- the toggle, with the sections of its three slices
abbrev pub toggle_with : TileText → TileText → TileText → Config
toggle_with first second third = record {
  device = codes "MINI-A";
  heads = [];
  tiles =
      output_text (codes "R0C1:MIO")
      ∷ output_text (codes "R0C2:MIO")
      ∷ output_text (codes "R0C3:MIO")
      ∷ first
      ∷ second
      ∷ third
      ∷ clock_text (codes "R2C1:MCK") (codes "G_CK0")
      ∷ clock_text (codes "R2C2:MCK") (codes "G_CK1")
      ∷ clock_text (codes "R2C3:MCK") (codes "G_CK2")
      ∷ [];
}

-- three pins from three tracks, and a clock
abbrev pub pin_lines : List ℕ → List ArcLine → List ArcLine
pin_lines clock tracks = line (codes "A") (codes "H0") ∷ line (codes "B") (codes "H1") ∷ line (codes "C") (codes "H2") ∷ line (codes "CK") clock ∷ tracks

abbrev pub first_lines : List ArcLine
first_lines = pin_lines (codes "G_CK0") (line (codes "H0") (codes "E1_H0") ∷ line (codes "H1") (codes "Q") ∷ line (codes "H2") (codes "E1_H2") ∷ [])

abbrev pub second_lines : List ArcLine
second_lines = pin_lines (codes "G_CK1") (line (codes "H0") (codes "E1_H0") ∷ line (codes "H1") (codes "W1_H1") ∷ line (codes "H2") (codes "Q") ∷ [])

abbrev pub third_lines : List ArcLine
third_lines = pin_lines (codes "G_CK2") (line (codes "H0") (codes "Q") ∷ line (codes "H1") (codes "W1_H1") ∷ line (codes "H2") (codes "W1_H2") ∷ [])

-- a safe routing: copy 2 goes over the tracks H0, copy 0 over H1, copy 1 over H2
abbrev pub toggle : Config
toggle = toggle_with (slice_text (codes "R1C1:MLC") first_lines) (slice_text (codes "R1C2:MLC") second_lines) (slice_text (codes "R1C3:MLC") third_lines)

-- An unsafe one: copies 2 and 0 reach the third slice over H3 and H4, which one bit of mux T joins.
abbrev pub crossed : Config
crossed = toggle_with
    (slice_text (codes "R1C1:MLC") (pin_lines (codes "G_CK0") (line (codes "H0") (codes "E1_H0") ∷ line (codes "H1") (codes "Q") ∷ line (codes "H2") (codes "E1_H2") ∷ line (codes "H4") (codes "Q") ∷ [])))
    (slice_text (codes "R1C2:MLC") (pin_lines (codes "G_CK1") (line (codes "H0") (codes "E1_H0") ∷ line (codes "H1") (codes "W1_H1") ∷ line (codes "H2") (codes "Q") ∷ line (codes "H4") (codes "W1_H4") ∷ [])))
    (slice_text (codes "R1C3:MLC") (
    line (codes "A") (codes "H3")
    ∷ line (codes "B") (codes "H4")
    ∷ line (codes "C") (codes "H2")
    ∷ line (codes "CK") (codes "G_CK2")
    ∷ line (codes "H0") (codes "Q")
    ∷ line (codes "H2") (codes "W1_H2")
    ∷ line (codes "H3") (codes "Q")
    ∷ line (codes "H4") (codes "W1_H4")
    ∷ []))

abbrev pub placed : List ℕ → List ℕ → List ℕ → Domain → Placed
placed name tile kind domain = record { name = name; tile = tile; kind = kind; domain = domain }

abbrev pub triple : List ℕ → List ℕ → List ℕ → Triple
triple first second third = record { first = first; second = second; third = third }

abbrev pub voter : List ℕ → Voter
voter slice = record { slice = slice; table = 0 }

-- the side file of the toggle
abbrev pub toggle_side : Side
toggle_side = record {
  slices = placed (codes "a0") (codes "R1C1:MLC") (codes "S0") D0 ∷ placed (codes "a1") (codes "R1C2:MLC") (codes "S0") D1 ∷ placed (codes "a2") (codes "R1C3:MLC") (codes "S0") D2 ∷ [];
  pads =
      placed (codes "k0") (codes "R2C1:MCK") (codes "K0") D0
      ∷ placed (codes "k1") (codes "R2C2:MCK") (codes "K0") D1
      ∷ placed (codes "k2") (codes "R2C3:MCK") (codes "K0") D2
      ∷ placed (codes "o0") (codes "R0C1:MIO") (codes "P0") D0
      ∷ placed (codes "o1") (codes "R0C2:MIO") (codes "P0") D1
      ∷ placed (codes "o2") (codes "R0C3:MIO") (codes "P0") D2
      ∷ [];
  triples = triple (codes "a0") (codes "a1") (codes "a2") ∷ [];
  inputs = [];
  outputs = triple (codes "o0") (codes "o1") (codes "o2") ∷ [];
  clocks = triple (codes "k0") (codes "k1") (codes "k2") ∷ [];
  voters = voter (codes "a0") ∷ voter (codes "a1") ∷ voter (codes "a2") ∷ [];
}
