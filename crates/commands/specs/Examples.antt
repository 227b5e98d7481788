-- Worked command lines.
use Rattle.std.specs.Prelude.{List, ℕ, [], ◌∷◌, codes}

abbrev pub check_line : List (List ℕ)
check_line = codes "check" ∷ codes "--family" ∷ codes "f" ∷ codes "--profile" ∷ codes "p" ∷ codes "--side" ∷ codes "s" ∷ codes "--config" ∷ codes "c" ∷ []

abbrev pub harden_line : List (List ℕ)
harden_line =
    codes "harden" ∷ codes "--family" ∷ codes "f" ∷ codes "--profile" ∷ codes "p" ∷ codes "--side" ∷ codes "s" ∷ codes "--config" ∷ codes "c"
    ∷ codes "--out" ∷ codes "o" ∷ codes "--side-out" ∷ codes "so" ∷ codes "--cut-out" ∷ codes "co" ∷ []
