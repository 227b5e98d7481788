-- The room of rows that are opened. (Our own.)
use Rattle.std.specs.Prelude.{ℕ, ◌+◌, List, [], ◌∷◌, length}

-- each row has room for its items, and for so many more
abbrev pub rooms_of : List (List ℕ) → List ℕ → List ℕ
rooms_of [] more = []
rooms_of (row ∷ rows) [] = []
rooms_of (row ∷ rows) (m ∷ ms) = (length row + m) ∷ rooms_of rows ms
