-- The names that bytes begin with, by the fronts of the bytes.
use Rattle.std.proofs.Common.{◌≡◌, ℕ, ◌+◌, ◌<◌, ◌≤◌, List, [], ◌∷◌, true, false, bytes_eq, nat_eq, length, take, refl, sym, ap, ◌∙◌, inl, inr, arith}
use Rattle.std.specs.List.{list_any, starts_with}
use Rattle.std.specs.Set.{is_member}
use Rattle.std.proofs.lemmas.List.{length-take}
use Rattle.std.proofs.lemmas.Bool.{or_cases, or_left, or_right, or_parts, or_from, both_ways, false_from_ne_true}
use Rattle.std.proofs.lemmas.Slice.Eq.{bytes_eq-Decides}

-- bytes begin with a name that is a front of them
begins_with : (bytes name : List ℕ) (end : ℕ) → end ≤ length bytes → bytes_eq (take end bytes) name ≡ true → starts_with nat_eq bytes name ≡ true
begins_with bytes name end within same =
    let front : take end bytes ≡ name = (bytes_eq-Decides (take end bytes) name).0 same in
    let long : length name ≡ end = omega (arith, ap length front, length-take end bytes) in
    (bytes_eq-Decides name (take (length name) bytes)).1 (sym front ∙ ap (λ n. take n bytes) (sym long))

-- a name that bytes begin with is a front of them
front_is : (bytes name : List ℕ) → starts_with nat_eq bytes name ≡ true → (length name ≤ length bytes) × (bytes_eq (take (length name) bytes) name ≡ true)
front_is bytes name begins =
    let front : name ≡ take (length name) bytes = (bytes_eq-Decides name (take (length name) bytes)).0 begins in
    (omega (arith, ap length front, length-take (length name) bytes), (bytes_eq-Decides (take (length name) bytes) name).1 (sym front))

-- where a front is one of the names, the bytes begin with a name
pub front_found : (bytes : List ℕ) (end : ℕ) → end ≤ length bytes → (names : List (List ℕ))
    → is_member bytes_eq names (take end bytes) ≡ true → list_any (λ name. starts_with nat_eq bytes name) names ≡ true
front_found bytes end within [] found = found
front_found bytes end within (name ∷ names) found =
    elim (or_cases (bytes_eq (take end bytes) name) (is_member bytes_eq names (take end bytes)) found) [
      | inl here ↦ or_left _ _ (begins_with bytes name end within here)
      | inr later ↦ or_right _ _ (front_found bytes end within names later)
    ]

-- where no front is one of the names, the bytes begin with none
pub no_front : (bytes : List ℕ) (names : List (List ℕ))
    → ((end : ℕ) → end < length bytes + 1 → is_member bytes_eq names (take end bytes) ≡ false) → list_any (λ name. starts_with nat_eq bytes name) names ≡ false
no_front bytes [] none = refl
no_front bytes (name ∷ names) none =
    or_from _ _
    (false_from_ne_true _ (λ begins.
    let front : (length name ≤ length bytes) × (bytes_eq (take (length name) bytes) name ≡ true) = front_is bytes name begins in
    both_ways _ (or_parts _ _ (none (length name) (omega arith))).0 front.1))
    (no_front bytes names (λ end within. (or_parts _ _ (none end within)).1))
