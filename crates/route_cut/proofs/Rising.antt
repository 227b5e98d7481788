-- A search in a list that rises finds what is in it.
use Rattle.std.proofs.Common.{◌≡◌, ℕ, ◌+◌, ◌<◌, ◌≤◌, ◌↔◌, inl, inr, true, List, length, get_or, zero, suc, Option, Some, None, Result, Ok, Err, MatchOption, slice_index_or, refl, sym, subst, ap, ◌∙◌, arith}
use Rattle.std.specs.Ordering.{nat_cmp, ordering_index, ordering_then}
use Rattle.std.specs.declared.cmp.Ordering.{Ordering}
use Rattle.std.specs.declared.cmp.Ordering.TheVariants.{Less, Equal, Greater}
use Rattle.std.specs.Result.{result_ok}
use Rattle.std.specs.Option.{is_some}
use Rattle.std.specs.List.Sorted.{IsStrictlyIncreasing, IsBinarySearchResult}
use Rattle.std.proofs.lemmas.List.Sorted.{searched}
use Rattle.std.proofs.lemmas.Bool.{cases_eq, cases_lt, false≢true}
use Rattle.words.specs.Members.{In}
use Rattle.net_links.proofs.Listed.{in_at, place_of}

-- what stands further on is no smaller
pub rises_over : (xs : List ℕ) → IsStrictlyIncreasing xs → (i j : ℕ) → i ≤ j → j < length xs → get_or xs i 0 ≤ get_or xs j 0
rises_over xs h i zero le lt = let e : i ≡ 0 = omega arith in let k : get_or xs i 0 ≡ get_or xs 0 0 = ap (λ z. get_or xs z 0) e in omega arith
rises_over xs h i (suc j) le lt = elim (cases_eq i (suc j)) as (λ _. get_or xs i 0 ≤ get_or xs (suc j) 0) [
  | inl e ↦ (let k : get_or xs i 0 ≡ get_or xs (suc j) 0 = ap (λ z. get_or xs z 0) e in omega arith)
  | inr n ↦ (let e : suc j ≡ j + 1 = omega arith in
      let k : get_or xs (suc j) 0 ≡ get_or xs (j + 1) 0 = ap (λ z. get_or xs z 0) e in
      let l = h j (omega arith) in
      let r = rises_over xs h i j (omega arith) (omega arith) in omega arith)
]

-- an order that ends with a tie is the order before it
pub ends_tied : (o : Ordering) → ordering_then o Equal ≡ o
ends_tied Less = refl
ends_tied Equal = refl
ends_tied Greater = refl

-- a search by one order is one by another that answers the same
pub same_search : (f g : ℕ → Ordering) → ((y : ℕ) → f y ≡ g y) → (xs : List ℕ) (r : Result ℕ ℕ) → IsBinarySearchResult f xs r → IsBinarySearchResult g xs r
same_search f g same xs (Ok i) h = λ d. sym (same (slice_index_or xs i d)) ∙ h d
same_search f g same xs (Err i) h = λ rises.
    let parted = h (λ a b d le lt. subst (λ o. ordering_index o ≤ ordering_index (f (slice_index_or xs b d))) (sym (same (slice_index_or xs a d)))
    (subst (λ o. ordering_index (g (slice_index_or xs a d)) ≤ ordering_index o) (sym (same (slice_index_or xs b d))) (rises a b d le lt))) in
    ((λ j d from to. sym (same (slice_index_or xs j d)) ∙ parted.0 j d from to), (λ j d from to. sym (same (slice_index_or xs j d)) ∙ parted.1 j d from to))

-- where a search ends
abbrev pub IsPlace : List ℕ → ℕ → Option ℕ → Type 0
IsPlace xs x found = MatchOption found (In xs x → ⊥) (λ i. (i < length xs) × (get_or xs i 0 ≡ x))

pub found_place : (xs : List ℕ) (x : ℕ) (r : Result ℕ ℕ) → IsStrictlyIncreasing xs → IsBinarySearchResult (λ y. nat_cmp y x) xs r → IsPlace xs x (result_ok r)
found_place xs x (Ok i) h s = searched xs x (Ok i) s (rises_over xs h)
found_place xs x (Err i) h s = λ m.
    let p = place_of xs x m in
    let t = searched xs x (Err i) s (rises_over xs h) in
    let below = p.below in
    let is = p.is in
    let no : ⊥ = elim (cases_lt p.place i) as (λ _. ⊥) [
      | inl l ↦ (let k = t.1 p.place l in omega arith)
      | inr l ↦ (let k = t.2 p.place l p.below in omega arith)
    ] in no

-- a place tells membership
pub place_is_member : (xs : List ℕ) (x : ℕ) (found : Option ℕ) → IsPlace xs x found → (is_some found ≡ true) ↔ In xs x
place_is_member xs x None p = ((λ e. absurd (false≢true e)), (λ h. absurd (p h)))
place_is_member xs x (Some i) p = ((λ e. subst (In xs) p.1 (in_at xs i p.0)), (λ h. refl))

-- no number stands twice
pub one_place : (xs : List ℕ) → IsStrictlyIncreasing xs → (i j : ℕ) → i < length xs → j < length xs → get_or xs i 0 ≡ get_or xs j 0 → i ≡ j
one_place xs h i j il jl e = elim (cases_lt i j) as (λ _. i ≡ j) [
  | inl l ↦ (let a = h i (omega arith) in let b = rises_over xs h (i + 1) j (omega arith) jl in absurd (omega arith))
  | inr l ↦ elim (cases_eq i j) as (λ _. i ≡ j) [
    | inl q ↦ q
    | inr n ↦ (let a = h j (omega arith) in let b = rises_over xs h (j + 1) i (omega arith) il in absurd (omega arith))
  ]
]
