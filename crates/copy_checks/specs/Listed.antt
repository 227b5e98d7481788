-- Numbers that may be there, in a list. (Our own.)
use Rattle.std.specs.Prelude.{◌≡◌, ◌↔◌, ℕ, Bool, true, false, List, [], ◌∷◌, ◌⊎◌, get_or, Option, None, Some}
use Rattle.words.specs.Members.{In}

abbrev pub present : Option ℕ → List ℕ
present None = []
present (Some k) = k ∷ []

-- the list has those of three that are there
abbrev pub AreThere : Option ℕ → Option ℕ → Option ℕ → List ℕ → Type 0
AreThere first second third list = (k : ℕ) → In list k ↔ ((first ≡ Some k) ⊎ ((second ≡ Some k) ⊎ (third ≡ Some k)))

-- a number that is there and is flagged
abbrev pub IsKept : List Bool → Option ℕ → Option ℕ → Type 0
IsKept flags number result = (k : ℕ) → (result ≡ Some k) ↔ ((number ≡ Some k) × (get_or flags k false ≡ true))
