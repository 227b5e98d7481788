-- The fault of the first element of a list with one, where each is judged alone. (Our own.)
use Rattle.std.specs.Prelude.{List, [], ◌∷◌, Option, None}
use Rattle.words.specs.Firsts.{or_else}

abbrev pub first_of : {X E : Type 0} → (X → Option E) → List X → Option E
first_of fault [] = None
first_of fault (x ∷ xs) = or_else (fault x) (first_of fault xs)
