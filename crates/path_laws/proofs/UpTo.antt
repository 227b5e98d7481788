-- All lists of elements of a list, up to a length.
use Rattle.std.proofs.Common.{ℕ, inl, inr, List, [], ◌∷◌, map, length, ◌≤◌, zero, suc, refl, arith}
use Rattle.std.specs.List.{flat_map}
use Rattle.words.specs.Members.{In}
use Rattle.links.proofs.Members.{in_map, in_flat_map}

-- all lists of elements of a list, up to a length
abbrev pub lists_up_to : {X : Type 0} → List X → ℕ → List (List X)
lists_up_to xs zero = [] ∷ []
lists_up_to xs (suc n) = [] ∷ flat_map (λ x. map (λ ys. x ∷ ys) (lists_up_to xs n)) xs

pub in_lists : {X : Type 0} (xs : List X) (n : ℕ) (ys : List X) → ((y : X) → In ys y → In xs y) → length ys ≤ n → In (lists_up_to xs n) ys
in_lists xs zero [] within short = inl refl
in_lists xs zero (y ∷ ys) within short = absurd (omega arith)
in_lists xs (suc n) [] within short = inl refl
in_lists xs (suc n) (y ∷ ys) within short =
    inr (in_flat_map (λ x. map (λ zs. x ∷ zs) (lists_up_to xs n)) xs y (y ∷ ys) (within y (inl refl))
    (in_map (λ zs. y ∷ zs) (lists_up_to xs n) ys (in_lists xs n ys (λ z i. within z (inr i)) (omega arith))))
