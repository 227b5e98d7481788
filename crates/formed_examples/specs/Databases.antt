-- The texts of MINI-A's databases. (Our own.)
use Rattle.std.specs.Prelude.{ℕ, List, ◌++◌, codes}

abbrev pub slice_db_text : List ℕ
slice_db_text =
    codes ".mux A\nH0 F2B0\nH3 F2B1\n.mux B\nH1 F2B2\nH4 F2B3\n.mux C\nH2 F2B4\nH5 F2B5\n"
    ++ (codes ".mux CK\nG_CK0 F3B0 F3B1\nG_CK1 F3B2 F3B3\nG_CK2 F3B4 F3B5\n.mux D\nN1_PI F3B6\n"
    ++ (codes ".mux H0\nQ F5B0 F5B1\nW1_H0 F5B2\nE1_H0 F5B3\n.mux H1\nQ F6B0 F6B1\nW1_H1 F6B2\nE1_H1 F6B3\n"
    ++ (codes ".mux H2\nQ F7B0 F7B1\nW1_H2 F7B2\nE1_H2 F7B3\n.mux H3\nQ F8B0 F8B1\nW1_H3 F8B2\nE1_H3 F8B3\n"
    ++ (codes ".mux H4\nQ F9B0 F9B1\nW1_H4 F9B2\nE1_H4 F9B3\n.mux H5\nQ F10B0 F10B1\nW1_H5 F10B2\nE1_H5 F10B3\n"
    ++ (codes ".mux T\nH3 F4B3\nH4 F4B3\n.config S0.K 0000000000000000\nF0B0\nF0B1\nF0B2\nF0B3\nF0B4\nF0B5\nF0B6\nF0B7\n"
    ++ codes "F1B0\nF1B1\nF1B2\nF1B3\nF1B4\nF1B5\nF1B6\nF1B7\n.config_enum S0.MODE LOGIC\nLOGIC -\nCCU2 F2B6\n")))))

abbrev pub pad_db_text : List ℕ
pad_db_text =
    codes ".mux PO\nS1_Q F0B0\nS1_H3 F0B0 F0B1\n.config_enum P0.DIR NONE\nNONE -\nINPUT F1B0\nOUTPUT F1B1\n"
    ++ codes ".config_enum P0.PULL NONE\nNONE -\nUP F1B2\n"

abbrev pub clock_db_text : List ℕ
clock_db_text = codes ".mux G_CK0\nKI F0B0 F0B1\n.mux G_CK1\nKI F0B2 F0B3\n.mux G_CK2\nKI F0B4 F0B5\n.config_enum K0.DIR NONE\nNONE -\nINPUT F1B0\n"
