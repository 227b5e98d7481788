-- What all elements of a list stand for.
use Rattle.std.specs.Prelude.{List, [], ◌∷◌, Option, Some, option_map, option_and_then, Result}
use Rattle.std.specs.Result.{result_ok, result_err}
use Rattle.std.specs.List.{filter_map}
use Rattle.words.specs.Firsts.{first_fault, unless_fault}

-- what each element stands for, where each stands for something
abbrev pub each : {X Y : Type 0} → (X → Option Y) → List X → Option (List Y)
each f [] = Some []
each f (x ∷ xs) = option_and_then (λ y. option_map (λ ys. y ∷ ys) (each f xs)) (f x)

-- what each element stands for, or the fault of the first element with one
abbrev pub each_or_fault : {X Y F : Type 0} → (X → Result Y F) → List X → Result (List Y) F
each_or_fault f xs = unless_fault (first_fault (λ _ x. result_err (f x)) xs) (filter_map (λ x. result_ok (f x)) xs)
