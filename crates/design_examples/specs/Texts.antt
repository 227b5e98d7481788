-- The texts of the toggle on MINI-A. (Our own.)
use Rattle.std.specs.Prelude.{ℕ, List, ◌++◌, codes}

abbrev pub slice_lines : List ℕ → List ℕ
slice_lines tracks = codes "arc: A H0\narc: B H1\narc: C H2\narc: CK " ++ tracks ++ codes "word: S0.K 0001011100010111\n"

abbrev pub toggle_text : List ℕ
toggle_text =
    codes ".device MINI-A\n"
    ++ codes "\n.tile R0C1:MIO\narc: PO S1_Q\nenum: P0.DIR OUTPUT\n"
    ++ codes "\n.tile R0C2:MIO\narc: PO S1_Q\nenum: P0.DIR OUTPUT\n"
    ++ codes "\n.tile R0C3:MIO\narc: PO S1_Q\nenum: P0.DIR OUTPUT\n"
    ++ codes "\n.tile R1C1:MLC\n"
    ++ slice_lines (codes "G_CK0\narc: H0 E1_H0\narc: H1 Q\narc: H2 E1_H2\n")
    ++ codes "\n.tile R1C2:MLC\n"
    ++ slice_lines (codes "G_CK1\narc: H0 E1_H0\narc: H1 W1_H1\narc: H2 Q\n")
    ++ codes "\n.tile R1C3:MLC\n"
    ++ slice_lines (codes "G_CK2\narc: H0 Q\narc: H1 W1_H1\narc: H2 W1_H2\n")
    ++ codes "\n.tile R2C1:MCK\narc: G_CK0 KI\nenum: K0.DIR INPUT\n"
    ++ codes "\n.tile R2C2:MCK\narc: G_CK1 KI\nenum: K0.DIR INPUT\n"
    ++ codes "\n.tile R2C3:MCK\narc: G_CK2 KI\nenum: K0.DIR INPUT\n"

abbrev pub toggle_side_text : List ℕ
toggle_side_text =
    codes "{\"clocks\":[[\"k0\",\"k1\",\"k2\"]],\"inputs\":[],\"outputs\":[[\"o0\",\"o1\",\"o2\"]],"
    ++ codes "\"pads\":[[\"k0\",\"R2C1:MCK\",\"K0\",0],[\"k1\",\"R2C2:MCK\",\"K0\",1],[\"k2\",\"R2C3:MCK\",\"K0\",2],"
    ++ codes "[\"o0\",\"R0C1:MIO\",\"P0\",0],[\"o1\",\"R0C2:MIO\",\"P0\",1],[\"o2\",\"R0C3:MIO\",\"P0\",2]],"
    ++ codes "\"slices\":[[\"a0\",\"R1C1:MLC\",\"S0\",0],[\"a1\",\"R1C2:MLC\",\"S0\",1],[\"a2\",\"R1C3:MLC\",\"S0\",2]],"
    ++ codes "\"triples\":[[\"a0\",\"a1\",\"a2\"]],\"voters\":[[\"a0\",0],[\"a1\",0],[\"a2\",0]]}\n"
