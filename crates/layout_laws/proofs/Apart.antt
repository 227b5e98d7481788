-- Lists of which no two elements are alike: what makes them, and that their elements have one number.
use Rattle.std.proofs.Common.{◌≡◌, ℕ, ◌+◌, ◌≤◌, zero, suc, inl, inr, List, [], ◌∷◌, ◌++◌, flat_map, filter_map, Option, Some, None, refl, sym, ap, subst, arith}
use Rattle.std.specs.Prelude.{slice_get}
use Rattle.std.specs.List.{enumerate_from, cons_option}
use Rattle.words.specs.Members.{In}
use Rattle.words.specs.Twice.{NoTwo}
use Rattle.links.proofs.Members.{in_either, of_flat_map}
use Rattle.fabric_laws.proofs.Members.{in_filter_map_from}
use Rattle.fabric_laws.proofs.Numbered.{get_in}

module _ {X : Type 0} (Alike : X → X → Type 0) where
  pub join : (xs ys : List X) → NoTwo Alike xs → NoTwo Alike ys → ((x y : X) → In xs x → In ys y → Alike x y → ⊥) → NoTwo Alike (xs ++ ys)
  join [] ys p q cross = q
  join (x ∷ xs) ys p q cross = (
    (λ y i a. elim (in_either xs ys y i) [ inl j ↦ p.0 y j a | inr j ↦ cross x y (inl refl) j a ]),
    join xs ys p.1 q (λ u v i j. cross u v (inr i) j),
  )

  -- alike elements have one number
  pub one_number : ((x y : X) → Alike x y → Alike y x) → (xs : List X) → NoTwo Alike xs → (i j : ℕ) (x y : X) → slice_get xs i ≡ Some x → slice_get xs j ≡ Some y → Alike x y → i ≡ j
  one_number turn [] p i j x y e f a = absurd (let no : ⊥ = cc in no)
  one_number turn (z ∷ zs) p zero zero x y e f a = refl
  one_number turn (z ∷ zs) p zero (suc j) x y e f a = absurd (p.0 y (get_in zs j y f) (let s : z ≡ x = cc in subst (λ w. Alike w y) (sym s) a))
  one_number turn (z ∷ zs) p (suc i) zero x y e f a = absurd (p.0 x (get_in zs i x e) (let s : z ≡ y = cc in subst (λ w. Alike w x) (sym s) (turn x y a)))
  one_number turn (z ∷ zs) p (suc i) (suc j) x y e f a = ap suc (one_number turn zs p.1 i j x y e f a)

-- what is made of elements that aren't alike
module _ {X Y : Type 0} (Alike : X → X → Type 0) (Same : Y → Y → Type 0) where
  pub made : (f : X → Option Y) → ((x y : X) (u v : Y) → f x ≡ Some u → f y ≡ Some v → Same u v → Alike x y) → (xs : List X) → NoTwo Alike xs → NoTwo Same (filter_map f xs)
  made f g [] p = tt
  made f g (x ∷ xs) p = go (f x) refl (made f g xs p.1)
    where
      go : (o : Option Y) → f x ≡ o → NoTwo Same (filter_map f xs) → NoTwo Same (cons_option o (filter_map f xs))
      go None e rest = rest
      go (Some u) e rest = ((λ v i s. let r = in_filter_map_from f xs v i in p.0 r.0 r.1 (g x r.0 u v e r.2 s)), rest)

  pub spread : (f : X → List Y) → ((x : X) → NoTwo Same (f x)) → ((x y : X) (u v : Y) → In (f x) u → In (f y) v → Same u v → Alike x y) → (xs : List X) → NoTwo Alike xs → NoTwo Same (flat_map f xs)
  spread f inner g [] p = tt
  spread f inner g (x ∷ xs) p = join Same (f x) (flat_map f xs) (inner x) (spread f inner g xs p.1)
      (λ u v i j s. let r = of_flat_map f xs v j in p.0 r.0 r.1.0 (g x r.0 u v i r.1.1 s))

-- numbered elements have different numbers
later_number : {X : Type 0} (xs : List X) (n : ℕ) (p : ℕ × X) → In (enumerate_from n xs) p → n ≤ p.0
later_number [] n p i = absurd i
later_number (x ∷ xs) n p i = elim i [
  | inl e ↦ (let s : n ≡ p.0 = ap (λ q. q.0) e in omega arith)
  | inr j ↦ (let l = later_number xs (n + 1) p j in omega arith)
]

pub numbers_apart : {X : Type 0} (xs : List X) (n : ℕ) → NoTwo (λ p q. p.0 ≡ q.0) (enumerate_from n xs)
numbers_apart [] n = tt
numbers_apart (x ∷ xs) n = ((λ q i e. let l = later_number xs (n + 1) q i in let no : ⊥ = omega arith in no), numbers_apart xs (n + 1))
