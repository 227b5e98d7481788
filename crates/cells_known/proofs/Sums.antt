-- Sums over a list, up to the largest number, element by element.
use Rattle.std.proofs.Common.{◌≡◌, ℕ, ◌+◌, ◌<◌, ◌≤◌, List, length, get_or, take, sum_by, ap, ◌∙◌, arith}
use Rattle.std.proofs.lemmas.List.{take_more, take_all}
use Rattle.std.proofs.lemmas.List.Sums.{sum_by_push}
use Rattle.cells_known.specs.Counted.{capped}

next : {X : Type 0} (f : X → ℕ) (xs : List X) (i : ℕ) (d : X) → i < length xs → sum_by f (take (i + 1) xs) ≡ sum_by f (take i xs) + f (get_or xs i d)
next f xs i d below = ap (sum_by f) (take_more xs i d below) ∙ sum_by_push f (take i xs) (get_or xs i d)

-- one element more
pub sum_more : {X : Type 0} (f : X → ℕ) (xs : List X) (i : ℕ) (d : X) (n k m : ℕ) → i < length xs
    → n ≡ capped (sum_by f (take i xs)) → k ≡ f (get_or xs i d) → m ≡ capped (n + k) → m ≡ capped (sum_by f (take (i + 1) xs))
sum_more f xs i d n k m below so_far part is = (let more = next f xs i d below in omega arith)

-- one element more, whose own part is capped too
pub sum_more_capped : {X : Type 0} (f : X → ℕ) (xs : List X) (i : ℕ) (d : X) (n k m : ℕ) → i < length xs
    → n ≡ capped (sum_by f (take i xs)) → k ≡ capped (f (get_or xs i d)) → m ≡ capped (n + k) → m ≡ capped (sum_by f (take (i + 1) xs))
sum_more_capped f xs i d n k m below so_far part is = (let more = next f xs i d below in omega arith)

pub sum_all : {X : Type 0} (f : X → ℕ) (xs : List X) (i n : ℕ) → length xs ≤ i → n ≡ capped (sum_by f (take i xs)) → n ≡ capped (sum_by f xs)
sum_all f xs i n over so_far = so_far ∙ ap (λ ys. capped (sum_by f ys)) (take_all i xs over)
