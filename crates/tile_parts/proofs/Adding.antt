-- What is left in, element by element.
use Rattle.std.proofs.Common.{◌≡◌, List, ◌∷◌, ◌++◌, filter_map, Option, None, Some, refl}
use Rattle.std.specs.Prelude.{option_to_list}

of_first : {X Y : Type 0} (f : X → Option Y) (x : X) (xs : List X) (o : Option Y) → f x ≡ o → filter_map f (x ∷ xs) ≡ option_to_list o ++ filter_map f xs
of_first f x xs None e = rw e refl
of_first f x xs (Some y) e = rw e refl

-- what is made of the first, and then of the rest
pub first_and_rest : {X Y : Type 0} (f : X → Option Y) (x : X) (xs : List X) → filter_map f (x ∷ xs) ≡ option_to_list (f x) ++ filter_map f xs
first_and_rest f x xs = of_first f x xs (f x) refl
