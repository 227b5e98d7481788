-- MINI-A, a made-up device of eleven tiles: four pads in row 0, four slices in row 1 and three clock pads in
-- row 2. (Our own.)
use Rattle.std.specs.Prelude.{ℕ, ◌+◌, ◌*◌, true, List, [], ◌∷◌, ◌++◌, map, Some, None, codes}
use Rattle.patterns.specs.Bits.{PatternBit}
use Rattle.records.specs.Database.{Arc, Mux, TileDb}
use Rattle.records.specs.Grid.{Tile}
use Rattle.records.specs.Profile.{Rules, TakeWire, TakeZero, TakeOne, TakeOff, TakeIn, TakeOut, Case, Choice, Profile}
use Rattle.fabric.specs.Device.{Device}

-- a plain bit `F<f>B<b>`
abbrev pub at : ℕ → ℕ → PatternBit
at f b = record { frame = f; bit = b; set = true }

abbrev pub arc : List ℕ → List PatternBit → Arc
arc source bits = record { source = source; bits = bits }

abbrev pub mux : List ℕ → List Arc → Mux
mux sink arcs = record { sink = sink; arcs = arcs }

-- a pin that takes one of two tracks
abbrev pub pin_mux : List ℕ → List ℕ → List ℕ → ℕ → Mux
pin_mux pin low high b = mux pin (arc low (at 2 b ∷ []) ∷ arc high (at 2 (b + 1) ∷ []) ∷ [])

-- a track that is driven from the register or from the same track of a neighbour
abbrev pub track_mux : List ℕ → ℕ → Mux
track_mux track f =
    mux track (
    arc (codes "Q") (at f 0 ∷ at f 1 ∷ [])
    ∷ arc (codes "W1_" ++ track) (at f 2 ∷ [])
    ∷ arc (codes "E1_" ++ track) (at f 3 ∷ [])
    ∷ [])

abbrev pub clock_arc : List ℕ → ℕ → Arc
clock_arc clock b = arc clock (at 3 b ∷ at 3 (b + 1) ∷ [])

-- a slice's tile: four pins, a clock, six tracks and T, which joins two of them by one bit
abbrev pub mlc : TileDb
mlc = record {
  muxes =
      pin_mux (codes "A") (codes "H0") (codes "H3") 0
      ∷ pin_mux (codes "B") (codes "H1") (codes "H4") 2
      ∷ pin_mux (codes "C") (codes "H2") (codes "H5") 4
      ∷ mux (codes "CK") (clock_arc (codes "G_CK0") 0 ∷ clock_arc (codes "G_CK1") 2 ∷ clock_arc (codes "G_CK2") 4 ∷ [])
      ∷ mux (codes "D") (arc (codes "N1_PI") (at 3 6 ∷ []) ∷ [])
      ∷ track_mux (codes "H0") 5
      ∷ track_mux (codes "H1") 6
      ∷ track_mux (codes "H2") 7
      ∷ track_mux (codes "H3") 8
      ∷ track_mux (codes "H4") 9
      ∷ track_mux (codes "H5") 10
      ∷ mux (codes "T") (arc (codes "H3") (at 4 3 ∷ []) ∷ arc (codes "H4") (at 4 3 ∷ []) ∷ [])
      ∷ [];
  words =
      record {
        name = codes "S0.K";
        bits = map (λ b. at 0 b ∷ []) (0 ∷ 1 ∷ 2 ∷ 3 ∷ 4 ∷ 5 ∷ 6 ∷ 7 ∷ []) ++ map (λ b. at 1 b ∷ []) (0 ∷ 1 ∷ 2 ∷ 3 ∷ 4 ∷ 5 ∷ 6 ∷ 7 ∷ []);
      } ∷ [];
  enums =
      record {
        name = codes "S0.MODE";
        default = Some (codes "LOGIC");
        options = record { value = codes "LOGIC"; bits = [] } ∷ record { value = codes "CCU2"; bits = at 2 6 ∷ [] } ∷ [];
      } ∷ [];
  fixed = [];
}

-- a pad's tile
abbrev pub mio : TileDb
mio = record {
  muxes = mux (codes "PO") (arc (codes "S1_Q") (at 0 0 ∷ []) ∷ arc (codes "S1_H3") (at 0 0 ∷ at 0 1 ∷ []) ∷ []) ∷ [];
  words = [];
  enums =
      record {
        name = codes "P0.DIR";
        default = Some (codes "NONE");
        options = record { value = codes "NONE"; bits = [] } ∷ record { value = codes "INPUT"; bits = at 1 0 ∷ [] } ∷ record { value = codes "OUTPUT"; bits = at 1 1 ∷ [] } ∷ [];
      }
      ∷ record {
        name = codes "P0.PULL";
        default = Some (codes "NONE");
        options = record { value = codes "NONE"; bits = [] } ∷ record { value = codes "UP"; bits = at 1 2 ∷ [] } ∷ [];
      }
      ∷ [];
  fixed = [];
}

abbrev pub clock_mux : List ℕ → ℕ → Mux
clock_mux clock b = mux clock (arc (codes "KI") (at 0 b ∷ at 0 (b + 1) ∷ []) ∷ [])

-- a clock pad's tile
abbrev pub mck : TileDb
mck = record {
  muxes = clock_mux (codes "G_CK0") 0 ∷ clock_mux (codes "G_CK1") 2 ∷ clock_mux (codes "G_CK2") 4 ∷ [];
  words = [];
  enums =
      record {
        name = codes "K0.DIR";
        default = Some (codes "NONE");
        options = record { value = codes "NONE"; bits = [] } ∷ record { value = codes "INPUT"; bits = at 1 0 ∷ [] } ∷ [];
      } ∷ [];
  fixed = [];
}

abbrev pub always : Case → Choice
always c = record { setting = None; cases = c ∷ [] }

abbrev pub rules : Rules
rules = record { chip_prefix = None; other_chips = codes "25K_" ∷ []; wide = codes "G_" ∷ [] }

abbrev pub profile : Profile
profile = record {
  rules = rules;
  joins = [];
  slices =
      record {
        tile = codes "MLC";
        name = codes "S0";
        shape = codes "L";
        settings = codes "S0.MODE" ∷ codes "S0.K" ∷ [];
        require = record { setting = codes "S0.MODE"; value = codes "LOGIC" } ∷ [];
        tables = record { word = codes "S0.K"; pins = codes "A" ∷ codes "B" ∷ codes "C" ∷ codes "D" ∷ []; out = codes "F" } ∷ [];
        registers =
            record {
              input = always (record { value = None; take = TakeWire (codes "F") });
              enable = always (record { value = None; take = TakeOne });
              reset = always (record { value = None; take = TakeZero });
              set = always (record { value = None; take = TakeZero });
              clock = always (record { value = None; take = TakeWire (codes "CK") });
              out = codes "Q";
            } ∷ [];
      } ∷ [];
  pads =
      record {
        tile = codes "MIO";
        name = codes "P0";
        settings = codes "P0.DIR" ∷ [];
        mode = record {
          setting = Some (codes "P0.DIR");
          cases = record { value = Some (codes "NONE"); take = TakeOff } ∷ record { value = Some (codes "INPUT"); take = TakeIn } ∷ record { value = Some (codes "OUTPUT"); take = TakeOut } ∷ [];
        };
        in_wire = Some (codes "PI");
        out_wire = Some (codes "PO");
      }
      ∷ record {
        tile = codes "MCK";
        name = codes "K0";
        settings = codes "K0.DIR" ∷ [];
        mode = record { setting = Some (codes "K0.DIR"); cases = record { value = Some (codes "NONE"); take = TakeOff } ∷ record { value = Some (codes "INPUT"); take = TakeIn } ∷ [] };
        in_wire = Some (codes "KI");
        out_wire = None;
      }
      ∷ [];
}

abbrev pub tile : List ℕ → List ℕ → ℕ → ℕ → ℕ → Tile
tile name kind row column cols = record { name = name; kind = kind; place = Some (row, column); cols = cols; rows = 8; start_frame = 16 * column; start_bit = 8 * row }

abbrev pub mini_a : Device
mini_a = record {
  grid = record {
    tiles =
        tile (codes "R0C1:MIO") (codes "MIO") 0 1 2
        ∷ tile (codes "R0C2:MIO") (codes "MIO") 0 2 2
        ∷ tile (codes "R0C3:MIO") (codes "MIO") 0 3 2
        ∷ tile (codes "R0C4:MIO") (codes "MIO") 0 4 2
        ∷ tile (codes "R1C1:MLC") (codes "MLC") 1 1 11
        ∷ tile (codes "R1C2:MLC") (codes "MLC") 1 2 11
        ∷ tile (codes "R1C3:MLC") (codes "MLC") 1 3 11
        ∷ tile (codes "R1C4:MLC") (codes "MLC") 1 4 11
        ∷ tile (codes "R2C1:MCK") (codes "MCK") 2 1 2
        ∷ tile (codes "R2C2:MCK") (codes "MCK") 2 2 2
        ∷ tile (codes "R2C3:MCK") (codes "MCK") 2 3 2
        ∷ [];
    height = 3;
    width = 5;
  };
  types = record { kind = codes "MCK"; db = mck } ∷ record { kind = codes "MIO"; db = mio } ∷ record { kind = codes "MLC"; db = mlc } ∷ [];
  profile = profile;
}
