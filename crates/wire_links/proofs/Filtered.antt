-- Rows of links that stand in order: the other ends of the links with one end.
use Rattle.std.proofs.Common.{◌≡◌, ℕ, ◌<◌, Bool, true, false, cond, List, [], ◌∷◌, map, filter, get_or, refl, sym, ap, subst, ◌∙◌, inl, inr, arith}
use Rattle.std.specs.Prelude.{◌==◌}
use Rattle.std.specs.List.{zip}
use Rattle.std.specs.declared.cmp.Ordering.{Ordering}
use Rattle.std.specs.declared.cmp.Ordering.TheVariants.{Less}
use Rattle.std.specs.Ordering.{nat_cmp}
use Rattle.std.proofs.lemmas.Bool.{cases_lt, eq-eqb, eqb-true}
use Rattle.std.proofs.lemmas.List.{get_or_past}
use Rattle.std.proofs.lemmas.List.FromFn.{get_or-map-range_with_len, length-map-range_with_len}
use Rattle.words.specs.Members.{In}
use Rattle.links.proofs.Members.{in_map, of_map}
use Rattle.fabric.specs.InOrder.{IsRising}
use Rattle.fabric_laws.proofs.Members.{in_filter_from, in_filter_to}
use Rattle.grouped.specs.Rows.{grouped, row_of}
use Rattle.grouped_laws.proofs.Stable.{rising_filter}

module _ {X : Type 0} (f g : X → ℕ) where
  -- the other ends of those with this end
  abbrev pub ends : ℕ → List X → List ℕ
  ends k xs = map g (filter (λ x. f x == k) xs)

  row_is_ends : (xs : List X) (k : ℕ) → row_of (λ (n : ℕ). n) (map f xs) (map g xs) k ≡ ends k xs
  row_is_ends [] k = refl
  row_is_ends (x ∷ xs) k = go (f x == k) ∙ ap (λ ys. cond (f x == k) (g x ∷ ys) ys) (row_is_ends xs k) ∙ sym (other (f x == k))
    where
      go : (b : Bool) → map (λ (p : ℕ × ℕ). p.1) (cond b ((f x, g x) ∷ filter (λ (p : ℕ × ℕ). p.0 == k) (zip (map f xs) (map g xs))) (filter (λ (p : ℕ × ℕ). p.0 == k) (zip (map f xs) (map g xs))))
          ≡ cond b (g x ∷ row_of (λ (n : ℕ). n) (map f xs) (map g xs) k) (row_of (λ (n : ℕ). n) (map f xs) (map g xs) k)
      go true = refl
      go false = refl

      other : (b : Bool) → map g (cond b (x ∷ filter (λ y. f y == k) xs) (filter (λ y. f y == k) xs)) ≡ cond b (g x ∷ ends k xs) (ends k xs)
      other true = refl
      other false = refl

  -- what stands in a row
  pub in_ends : (xs : List X) (k y : ℕ) → In (ends k xs) y → (x : X) × (In xs x × ((f x ≡ k) × (g x ≡ y)))
  in_ends xs k y i =
      let m = of_map g (filter (λ x. f x == k) xs) y i in
      let l = in_filter_from (λ x. f x == k) xs m.0 m.1.0 in
      (m.0, (l.0, (eqb-true (f m.0) k l.1, m.1.1)))

  pub ends_have : (xs : List X) (x : X) → In xs x → In (ends (f x) xs) (g x)
  ends_have xs x i = in_map g (filter (λ y. f y == f x) xs) x (in_filter_to (λ y. f y == f x) xs x i (eq-eqb (f x) (f x) refl))

  -- a row of a grouping, also where no row stands
  pub row_at : (xs : List X) (count : ℕ) → ((x : X) → In xs x → f x < count) → (k : ℕ) → get_or (grouped (λ (n : ℕ). n) count (map f xs) (map g xs)) k [] ≡ ends k xs
  row_at xs count below k = elim (cases_lt k count) [
    | inl l ↦ get_or-map-range_with_len (row_of (λ (n : ℕ). n) (map f xs) (map g xs)) 0 count k k [] l (omega arith) ∙ row_is_ends xs k
    | inr past ↦ get_or_past (grouped (λ (n : ℕ). n) count (map f xs) (map g xs)) k [] (let e = length-map-range_with_len (row_of (λ (n : ℕ). n) (map f xs) (map g xs)) 0 count in omega (arith, e))
        ∙ sym (no_ends (ends k xs) (λ y i. let m = in_ends xs k y i in let b = below m.0 m.1.0 in let e = m.1.1.0 in let no : ⊥ = omega arith in no))
  ]
    where
      no_ends : (ys : List ℕ) → ((y : ℕ) → In ys y → ⊥) → ys ≡ []
      no_ends [] none = refl
      no_ends (y ∷ ys) none = absurd (none y (inl refl))

  -- a row rises where what stands in it comes in order
  pub ends_rise : (cmp : X → X → Ordering) (xs : List X) (k : ℕ) → IsRising cmp xs → ((a b : X) → f a ≡ k → f b ≡ k → cmp a b ≡ Less → nat_cmp (g a) (g b) ≡ Less)
      → IsRising nat_cmp (ends k xs)
  ends_rise cmp xs k rising same = go (filter (λ x. f x == k) xs) (rising_filter cmp (λ x. f x == k) xs rising) (λ x i. eqb-true (f x) k (in_filter_from (λ y. f y == k) xs x i).1)
    where
      go : (ys : List X) → IsRising cmp ys → ((y : X) → In ys y → f y ≡ k) → IsRising nat_cmp (map g ys)
      go [] rises at = tt
      go (y ∷ ys) rises at = (
        (λ z i. let m = of_map g ys z i in subst (λ v. nat_cmp (g y) v ≡ Less) m.1.1 (same y m.0 (at y (inl refl)) (at m.0 (inr m.1.0)) (rises.0 m.0 m.1.0))),
        go ys rises.1 (λ x i. at x (inr i)),
      )
