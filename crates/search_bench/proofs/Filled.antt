-- Lists that are filled one element after the other.
use Rattle.std.proofs.Common.{◌≡◌, ℕ, ◌+◌, ◌<◌, List, [], ◌∷◌, ◌++◌, length, get_or, zero, suc, sym, subst, ap, ◌∙◌, refl, arith, inl, inr}
use Rattle.std.proofs.lemmas.Bool.{cases_eq}
use Rattle.std.proofs.lemmas.List.{length-append}
use Rattle.search_bench.specs.Grids.{AreIds, AreInto, into}

pub at_front : (xs ys : List ℕ) (k : ℕ) → k < length xs → get_or (xs ++ ys) k 0 ≡ get_or xs k 0
at_front [] ys k h = absurd (omega arith)
at_front (x ∷ xs) ys zero h = refl
at_front (x ∷ xs) ys (suc k) h = at_front xs ys k (omega arith)

pub at_end : (xs : List ℕ) (x k : ℕ) → k ≡ length xs → get_or (xs ++ x ∷ []) k 0 ≡ x
at_end [] x zero h = refl
at_end [] x (suc k) h = absurd (omega arith)
at_end (y ∷ xs) x zero h = absurd (omega arith)
at_end (y ∷ xs) x (suc k) h = at_end xs x k (omega arith)

one_more : (f : ℕ → ℕ) (count x : ℕ) (xs : List ℕ) → length xs ≡ count → ((k : ℕ) → k < count → get_or xs k 0 ≡ f k) → x ≡ f count → (k : ℕ) → k < count + 1 → get_or (xs ++ x ∷ []) k 0 ≡ f k
one_more f count x xs len each e k h = elim (cases_eq k count) as (λ _. get_or (xs ++ x ∷ []) k 0 ≡ f k) [
  | inl q ↦ at_end xs x k (omega arith) ∙ (e ∙ ap f (sym q))
  | inr d ↦ at_front xs (x ∷ []) k (omega arith) ∙ each k (omega arith)
]

pub one_id_more : (count x : ℕ) (xs new : List ℕ) → AreIds count xs → x ≡ count → new ≡ xs ++ x ∷ [] → AreIds (count + 1) new
one_id_more count x xs new h e en =
    let n = length-append xs (x ∷ []) in let l = h.len in
    subst (AreIds (count + 1)) (sym en) (record { len = omega arith; each = one_more (λ k. k) count x xs h.len h.each e })

pub one_into_more : (wires : ℕ) (distances : List ℕ) (count x : ℕ) (xs new : List ℕ) → AreInto wires distances count xs → x ≡ into wires distances count → new ≡ xs ++ x ∷ [] → AreInto wires distances (count + 1) new
one_into_more wires distances count x xs new h e en =
    let n = length-append xs (x ∷ []) in let l = h.len in
    subst (AreInto wires distances (count + 1)) (sym en) (record { len = omega arith; each = one_more (into wires distances) count x xs h.len h.each e })
