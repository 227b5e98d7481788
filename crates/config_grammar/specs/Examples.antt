-- Worked texts.
use Rattle.std.specs.Prelude.{ℕ, true, false, List, [], ◌∷◌, codes}
use Rattle.records.specs.Config.{Config}

-- lines as a tool may write them: sections, arcs and heads in any order
abbrev pub loose_text : List ℕ
loose_text = codes ".device MINI-A\n.tile R1C2:MLC\n arc: H1 W1_H1\narc: A H0\n# a remark\n.comment  Part: MINI \nword: S0.K 0111\narc: A H0\r\n.tile R1C1:MLC\nenum: S0.MODE LOGIC\nunknown: F10B2\n"

-- the same as it is written
abbrev pub written_text : List ℕ
written_text = codes ".device MINI-A\n.comment  Part: MINI\n\n.tile R1C1:MLC\nenum: S0.MODE LOGIC\nunknown: F10B2\n\n.tile R1C2:MLC\narc: A H0\narc: H1 W1_H1\nword: S0.K 0111\n"

abbrev pub worked_config : Config
worked_config = record {
  device = codes "MINI-A";
  heads = record { text = codes ".comment  Part: MINI" } ∷ [];
  tiles =
      record {
        tile = codes "R1C1:MLC";
        line = 9;
        arcs = [];
        words = [];
        enums = record { name = codes "S0.MODE"; value = codes "LOGIC"; line = 10 } ∷ [];
        unknowns = record { frame = 10; bit = 2; line = 11 } ∷ [];
      }
      ∷ record {
        tile = codes "R1C2:MLC";
        line = 2;
        arcs = record { sink = codes "A"; source = codes "H0"; line = 4 } ∷ record { sink = codes "H1"; source = codes "W1_H1"; line = 3 } ∷ [];
        words = record { name = codes "S0.K"; bits = true ∷ true ∷ true ∷ false ∷ []; line = 7 } ∷ [];
        enums = [];
        unknowns = [];
      }
      ∷ [];
}
