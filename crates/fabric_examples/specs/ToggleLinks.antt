-- The links of the toggle, each as its sink and its source, in arc order.
use Rattle.std.specs.Prelude.{ℕ, List, [], ◌∷◌, codes}

abbrev pub toggle_links : List (List ℕ)
toggle_links =
    codes "R0C1/PO R1C1/Q"
    ∷ codes "R0C2/PO R1C2/Q"
    ∷ codes "R0C3/PO R1C3/Q"
    ∷ codes "R1C1/A R1C1/H0"
    ∷ codes "R1C1/B R1C1/H1"
    ∷ codes "R1C1/C R1C1/H2"
    ∷ codes "R1C1/CK */G_CK0"
    ∷ codes "R1C1/H0 R1C2/H0"
    ∷ codes "R1C1/H1 R1C1/Q"
    ∷ codes "R1C1/H2 R1C2/H2"
    ∷ codes "R1C2/A R1C2/H0"
    ∷ codes "R1C2/B R1C2/H1"
    ∷ codes "R1C2/C R1C2/H2"
    ∷ codes "R1C2/CK */G_CK1"
    ∷ codes "R1C2/H0 R1C3/H0"
    ∷ codes "R1C2/H1 R1C1/H1"
    ∷ codes "R1C2/H2 R1C2/Q"
    ∷ codes "R1C3/A R1C3/H0"
    ∷ codes "R1C3/B R1C3/H1"
    ∷ codes "R1C3/C R1C3/H2"
    ∷ codes "R1C3/CK */G_CK2"
    ∷ codes "R1C3/H0 R1C3/Q"
    ∷ codes "R1C3/H1 R1C2/H1"
    ∷ codes "R1C3/H2 R1C2/H2"
    ∷ codes "*/G_CK0 R2C1/KI"
    ∷ codes "*/G_CK1 R2C2/KI"
    ∷ codes "*/G_CK2 R2C3/KI"
    ∷ []
