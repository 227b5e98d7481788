-- The places where a test passes.
use Rattle.std.proofs.Common.{◌≡◌, ℕ, zero, suc, ◌+◌, ◌<◌, ◌↔◌, Bool, true, false, cond, List, [], ◌∷◌, Some, refl, ap, ap₂, subst, ◌∙◌, inl, inr, arith}
use Rattle.std.specs.Prelude.{slice_get}
use Rattle.std.specs.declared.cmp.Ordering.TheVariants.{Less}
use Rattle.std.specs.Ordering.{nat_cmp}
use Rattle.std.proofs.lemmas.Bool.{false≢true, lt-ltb}
use Rattle.words.specs.Members.{In}
use Rattle.fabric.specs.InOrder.{IsRising}
use Rattle.chosen_arcs.specs.Places.{places_where}

module _ {X : Type 0} (test : X → Bool) where
  -- what stands at a place
  abbrev pub Passes : List X → ℕ → Type 0
  Passes xs k = (x : X) × ((slice_get xs k ≡ Some x) × (test x ≡ true))

  pub from_places : (n : ℕ) (xs : List X) (k : ℕ) → In (places_where test n xs) k → (j : ℕ) × ((k ≡ n + j) × Passes xs j)
  from_places n [] k i = absurd i
  from_places n (x ∷ xs) k i = go (test x) refl i (from_places (suc n) xs k)
    where
      go : (b : Bool) → test x ≡ b → In (cond b (n ∷ places_where test (suc n) xs) (places_where test (suc n) xs)) k
          → (In (places_where test (suc n) xs) k → (j : ℕ) × ((k ≡ suc n + j) × Passes xs j)) → (j : ℕ) × ((k ≡ n + j) × Passes (x ∷ xs) j)
      go true e h later = elim h [
        | inl here ↦ (0, (omega (arith, here), (x, (refl, e))))
        | inr i ↦ (let m = later i in (suc m.0, (let s = m.1.0 in omega arith, m.1.1)))
      ]
      go false e h later = let m = later h in (suc m.0, (let s = m.1.0 in omega arith, m.1.1))

  pub to_places : (n : ℕ) (xs : List X) (j : ℕ) → Passes xs j → In (places_where test n xs) (n + j)
  to_places n [] j p = absurd (let e = p.1.0 in let no : ⊥ = cc in no)
  to_places n (x ∷ xs) zero p = go (test x) (let s : x ≡ p.0 = (let e = p.1.0 in cc) in ap test s ∙ p.1.1)
    where
      go : (b : Bool) → b ≡ true → In (cond b (n ∷ places_where test (suc n) xs) (places_where test (suc n) xs)) (n + 0)
      go true e = inl (omega arith)
      go false e = absurd (false≢true e)
  to_places n (x ∷ xs) (suc j) p = go (test x) (let e : suc n + j ≡ n + suc j = omega arith in subst (In (places_where test (suc n) xs)) e (to_places (suc n) xs j p))
    where
      go : (b : Bool) → In (places_where test (suc n) xs) (n + suc j) → In (cond b (n ∷ places_where test (suc n) xs) (places_where test (suc n) xs)) (n + suc j)
      go true i = inr i
      go false i = i

  pub places_rise : (n : ℕ) (xs : List X) → IsRising nat_cmp (places_where test n xs)
  places_rise n [] = tt
  places_rise n (x ∷ xs) = go (test x) (places_rise (suc n) xs)
    where
      go : (b : Bool) → IsRising nat_cmp (places_where test (suc n) xs) → IsRising nat_cmp (cond b (n ∷ places_where test (suc n) xs) (places_where test (suc n) xs))
      go true later = ((λ y i. let m = from_places (suc n) xs y i in let less : n < y = (let e = m.1.0 in omega arith) in let c : nat_cmp n y ≡ Less = rw (lt-ltb n y less) refl in c), later)
      go false later = later

  pub members : (xs : List X) (k : ℕ) → In (places_where test 0 xs) k ↔ Passes xs k
  members xs k = (
    (λ i. let m = from_places 0 xs k i in subst (Passes xs) (let e = m.1.0 in let s : m.0 ≡ k = omega arith in s) m.1.1),
    (λ p. let e : 0 + k ≡ k = omega arith in subst (In (places_where test 0 xs)) e (to_places 0 xs k p)),
  )

-- tests that agree on all elements pass at the same places
pub places_same : {X : Type 0} (test other : X → Bool) (n : ℕ) (xs : List X) → ((x : X) → In xs x → test x ≡ other x) → places_where test n xs ≡ places_where other n xs
places_same test other n [] same = refl
places_same test other n (x ∷ xs) same =
    ap₂ (λ b ys. cond b (n ∷ ys) ys) (same x (inl refl)) (places_same test other (suc n) xs (λ y i. same y (inr i)))
