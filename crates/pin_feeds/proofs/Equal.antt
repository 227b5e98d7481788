-- Lists that are compared element by element.
use Rattle.std.proofs.Common.{◌≡◌, ℕ, ◌+◌, ◌<◌, ◌≤◌, List, length, get_or, take, Option, None, sym, ap, ◌∙◌, arith}
use Rattle.std.proofs.lemmas.List.{take_more_same, take_all}

pub one_more_same : (xs ys : List (Option ℕ)) (i : ℕ) → i < length xs → length xs ≡ length ys → take i xs ≡ take i ys → get_or xs i None ≡ get_or ys i None → take (i + 1) xs ≡ take (i + 1) ys
one_more_same xs ys i below long so_far same = take_more_same xs ys i None below (omega arith) so_far same

pub all_same : (xs ys : List (Option ℕ)) (i : ℕ) → length xs ≤ i → length xs ≡ length ys → take i xs ≡ take i ys → xs ≡ ys
all_same xs ys i over long so_far = sym (take_all i xs over) ∙ (so_far ∙ take_all i ys (omega arith))

pub one_differs : (xs ys : List (Option ℕ)) (i : ℕ) → (get_or xs i None ≡ get_or ys i None → ⊥) → xs ≡ ys → ⊥
one_differs xs ys i other same = other (ap (λ zs. get_or zs i None) same)
