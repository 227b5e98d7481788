-- A list in which nothing stands twice is no longer than one that holds its elements.
use Rattle.std.proofs.Common.{◌≡◌, ◌≤◌, List, [], ◌∷◌, ◌++◌, length, inl, inr, refl, sym, ap, subst, arith, length-append}
use Rattle.std.specs.declared.cmp.Ordering.{Ordering}
use Rattle.std.specs.declared.cmp.Ordering.TheVariants.{Equal}
use Rattle.words.specs.Members.{In}
use Rattle.words.specs.Twice.{HasNoneTwice}
use Rattle.links.proofs.Members.{in_left, in_right, in_either}
use Rattle.fabric.specs.InOrder.{InOrderOnce, IsRising}

module _ {X : Type 0} where
  -- what stands before an element and behind it
  around : (ys : List X) (x : X) → In ys x → (front : List X) × ((back : List X) × (ys ≡ front ++ x ∷ back))
  around [] x i = absurd i
  around (y ∷ ys) x i = elim i [
    | inl e ↦ ([], (ys, ap (λ z. z ∷ ys) e))
    | inr j ↦ (let r = around ys x j in (y ∷ r.0, (r.1.0, ap (λ z. y ∷ z) r.1.1)))
  ]

  pub fewer : (xs ys : List X) → HasNoneTwice xs → ((x : X) → In xs x → In ys x) → length xs ≤ length ys
  fewer [] ys none there = omega arith
  fewer (x ∷ xs) ys none there =
      let s = around ys x (there x (inl refl)) in
      let other : (z : X) → In xs z → In (s.0 ++ s.1.0) z = λ z i.
      elim (in_either s.0 (x ∷ s.1.0) z (subst (λ zs. In zs z) s.1.1 (there z (inr i)))) [
        | inl j ↦ in_left s.0 s.1.0 z j
        | inr j ↦ elim j [ inl e ↦ absurd (none.0 (subst (In xs) (sym e) i)) | inr k ↦ in_right s.0 s.1.0 z k ]
      ] in
      let rest = fewer xs (s.0 ++ s.1.0) none.1 other in
      omega (arith, rest, ap length s.1.1, length-append s.0 (x ∷ s.1.0), length-append s.0 s.1.0)

  -- in a rising list nothing stands twice
  once : (cmp : X → X → Ordering) → ((x : X) → cmp x x ≡ Equal) → (xs : List X) → IsRising cmp xs → HasNoneTwice xs
  once cmp tied [] rising = tt
  once cmp tied (x ∷ xs) rising = ((λ i. let less = rising.0 x i in let same = tied x in let no : ⊥ = cc in no), once cmp tied xs rising.1)

  pub not_more : (cmp : X → X → Ordering) → ((x : X) → cmp x x ≡ Equal) → (named xs : List X) → InOrderOnce cmp named xs → length xs ≤ length named
  not_more cmp tied named xs are = fewer xs named (once cmp tied xs are.rising) (λ x i. (are.members x).0 i)
