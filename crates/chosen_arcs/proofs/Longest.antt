-- The most bits of an arc that fits, and the arcs that are chosen.
use Rattle.std.proofs.Common.{◌≡◌, ℕ, ◌+◌, ◌<◌, ◌≤◌, ◌⊎◌, Bool, true, false, not, cond, List, [], ◌∷◌, ◌++◌, length, get_or, take, max, refl, sym, ap, ap₂, subst, ◌∙◌, inl, inr, arith}
use Rattle.std.specs.Prelude.{nat_le, ◌&&◌, ◌||◌}
use Rattle.std.specs.List.{list_all}
use Rattle.std.proofs.lemmas.Bool.{false≢true}
use Rattle.std.proofs.lemmas.Bool.Decides.{nat_tests}
use Rattle.std.proofs.lemmas.List.{take_more}
use Rattle.words.specs.Members.{In}
use Rattle.links.proofs.Members.{in_either, in_left, in_right}
use Rattle.fabric_laws.proofs.Members.{all_from, all_to}
use Rattle.patterns.specs.Bits.{DeviceBit, PatternBit, Bits}
use Rattle.patterns.specs.Fits.{fits}
use Rattle.fabric.specs.Chosen.{is_best_fit}
use Rattle.chosen_arcs.specs.Places.{IsMost}

module _ {X : Type 0} (test : X → Bool) (size : X → ℕ) where
  pub most_none : IsMost test size [] 0
  most_none = record { above = λ x i. absurd i; reached = inl refl }

  -- one more element that passes
  pub most_more : (xs : List X) (m : ℕ) (x : X) → IsMost test size xs m → test x ≡ true → IsMost test size (xs ++ x ∷ []) (max (size x) m)
  most_more xs m x most passes = record {
    above = λ y i e. elim (in_either xs (x ∷ []) y i) [
      | inl j ↦ (let l = most.above y j e in omega arith)
      | inr j ↦ elim j [ inl s ↦ (let q = ap size s in omega arith) | inr k ↦ absurd k ]
    ];
    reached = elim (larger (size x) m) [
      | inl e ↦ inr (x, (in_right xs (x ∷ []) x (inl refl), (passes, sym e)))
      | inr e ↦ elim most.reached [
        | inl z ↦ inl (e ∙ z)
        | inr r ↦ inr (r.0, (in_left xs (x ∷ []) r.0 r.1.0, (r.1.1.0, r.1.1.1 ∙ sym e)))
      ]
    ];
  }
    where
      larger : (a b : ℕ) → (max a b ≡ a) ⊎ (max a b ≡ b)
      larger a b = grind arith

  -- one more that doesn't
  pub most_same : (xs : List X) (m : ℕ) (x : X) → IsMost test size xs m → test x ≡ false → IsMost test size (xs ++ x ∷ []) m
  most_same xs m x most fails = record {
    above = λ y i e. elim (in_either xs (x ∷ []) y i) [
      | inl j ↦ most.above y j e
      | inr j ↦ elim j [ inl s ↦ absurd (let q = ap test s in false≢true (sym fails ∙ (q ∙ e))) | inr k ↦ absurd k ]
    ];
    reached = elim most.reached [ inl z ↦ inl z | inr r ↦ inr (r.0, (in_left xs (x ∷ []) r.0 r.1.0, r.1.1)) ];
  }

  -- the most once one more element is looked at
  pub most_step : (xs ys : List X) (i m r : ℕ) (x : X) (b : Bool) → i < length ys → x ≡ get_or ys i x → xs ≡ take i ys → IsMost test size xs m → b ≡ test x
      → r ≡ cond b (max (size x) m) m → IsMost test size (take (i + 1) ys) r
  most_step xs ys i m r x b within is front most tested made =
      let whole : take (i + 1) ys ≡ xs ++ x ∷ [] = take_more ys i x within ∙ ap₂ (λ (zs : List X) z. zs ++ z ∷ []) (sym front) (sym is) in
      subst (λ zs. IsMost test size zs r) (sym whole) (subst (λ n. IsMost test size (xs ++ x ∷ []) n) (sym made) (go b (sym tested)))
    where
      go : (t : Bool) → test x ≡ t → IsMost test size (xs ++ x ∷ []) (cond t (max (size x) m) m)
      go true e = most_more xs m x most e
      go false e = most_same xs m x most e

le_from : (m n : ℕ) → nat_le m n ≡ true → m ≤ n
le_from m n e = grind (arith, nat_tests)

le_to : (m n : ℕ) → m ≤ n → nat_le m n ≡ true
le_to m n l = grind (arith, nat_tests)

-- an element that fits with at least the most bits is a best fit, and no other is
module _ {X : Type 0} (pattern : X → List PatternBit) (image : Bits) (origin : DeviceBit) (xs : List X) (m : ℕ)
    (most : IsMost (λ x. fits image origin (pattern x)) (λ x. length (pattern x)) xs m) where
  abbrev fit : X → Bool
  fit x = fits image origin (pattern x)

  abbrev no_longer : X → X → Bool
  no_longer x other = not (fit other) || nat_le (length (pattern other)) (length (pattern x))

  -- no element that fits is longer than one with the most bits
  all_no_longer : (x : X) → nat_le m (length (pattern x)) ≡ true → list_all (no_longer x) xs ≡ true
  all_no_longer x e = all_to (no_longer x) xs (λ other i. go other i (fit other) refl)
    where
      go : (other : X) → In xs other → (f : Bool) → fit other ≡ f → (not f || nat_le (length (pattern other)) (length (pattern x))) ≡ true
      go other i true e' = le_to (length (pattern other)) (length (pattern x)) (let a = most.above other i e' in let b = le_from m (length (pattern x)) e in omega arith)
      go other i false e' = refl

  -- one with fewer bits is shorter than one that fits
  some_longer : (x : X) → nat_le m (length (pattern x)) ≡ false → list_all (no_longer x) xs ≡ true → ⊥
  some_longer x e all = elim most.reached [
    | inl z ↦ false≢true (sym e ∙ le_to m (length (pattern x)) (omega arith))
    | inr r ↦ (let t = all_from (no_longer x) xs all r.0 r.1.0 in
        let u : (not (fit r.0) || nat_le (length (pattern r.0)) (length (pattern x))) ≡ nat_le (length (pattern r.0)) (length (pattern x)) = ap (λ b. not b || nat_le (length (pattern r.0)) (length (pattern x))) r.1.1.0 in
        let l = le_from (length (pattern r.0)) (length (pattern x)) (sym u ∙ t) in
        let s = r.1.1.1 in
        false≢true (sym e ∙ le_to m (length (pattern x)) (omega arith)))
  ]

  pub best_is : (x : X) → (nat_le m (length (pattern x)) && fit x) ≡ is_best_fit pattern image origin xs x
  best_is x = go (fit x) (nat_le m (length (pattern x))) (list_all (no_longer x) xs) refl refl
    where
      go : (f l a : Bool) → nat_le m (length (pattern x)) ≡ l → list_all (no_longer x) xs ≡ a → (l && f) ≡ (f && a)
      go true true true e h = refl
      go true true false e h = absurd (false≢true (sym h ∙ all_no_longer x e))
      go true false true e h = absurd (some_longer x e h)
      go true false false e h = refl
      go false true a e h = refl
      go false false a e h = refl
