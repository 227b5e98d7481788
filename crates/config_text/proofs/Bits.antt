-- Bits and digits, the highest and the lowest first.
use mathlib.Core.List.{reverse_aux}
use Rattle.std.proofs.Common.{◌≡◌, List, [], ◌∷◌, map, reverse, refl}

onto : {X Y : Type 0} (f : X → Y) (xs done : List X) → reverse_aux (map f xs) (map f done) ≡ map f (reverse_aux xs done)
onto f [] done = refl
onto f (x ∷ xs) done = onto f xs (x ∷ done)

-- what a function makes of a list in reverse
pub reversed_map : {X Y : Type 0} (f : X → Y) (xs : List X) → reverse (map f xs) ≡ map f (reverse xs)
reversed_map f xs = onto f xs []
