-- Lists that are empty, and how many elements a part of a list in order has.
use Rattle.std.proofs.Common.{◌≡◌, ℕ, ◌≤◌, inl, inr, List, [], ◌∷◌, ◌++◌, flat_map, filter, length, Bool, true, false, refl, sym, ap, subst, ◌∙◌, arith}
use Rattle.std.specs.Prelude.{if◌then◌else◌}
use Rattle.std.specs.declared.cmp.Ordering.TheVariants.{Less}
use Rattle.std.specs.Cmp.{tied_itself}
use Rattle.std.specs.Cmp.Lexicographic.{nat_list_cmp_total}
use Rattle.words.specs.Members.{In}
use Rattle.fabric.specs.InOrder.{IsRising}
use Rattle.fabric.specs.Wires.{name_cmp}

pub left_empty : {X : Type 0} (xs ys : List X) → xs ++ ys ≡ [] → xs ≡ []
left_empty [] ys h = refl
left_empty (x ∷ xs) ys h = absurd (let no : ⊥ = cc in no)

pub right_empty : {X : Type 0} (xs ys : List X) → xs ++ ys ≡ [] → ys ≡ []
right_empty [] ys h = h
right_empty (x ∷ xs) ys h = absurd (let no : ⊥ = cc in no)

pub both_empty : {X : Type 0} (xs ys : List X) → xs ≡ [] → ys ≡ [] → xs ++ ys ≡ []
both_empty xs ys e f = ap (λ zs. zs ++ ys) e ∙ f

module _ {X Y : Type 0} (f : X → List Y) where
  -- no element gives anything, where nothing is given
  pub each_empty : (xs : List X) → flat_map f xs ≡ [] → (x : X) → In xs x → f x ≡ []
  each_empty [] h x i = absurd i
  each_empty (z ∷ zs) h x i = elim i [
    | inl e ↦ subst (λ w. f w ≡ []) e (left_empty (f z) (flat_map f zs) h)
    | inr j ↦ each_empty zs (right_empty (f z) (flat_map f zs) h) x j
  ]

  pub all_empty : (xs : List X) → ((x : X) → In xs x → f x ≡ []) → flat_map f xs ≡ []
  all_empty [] h = refl
  all_empty (x ∷ xs) h = both_empty (f x) (flat_map f xs) (h x (inl refl)) (all_empty xs (λ z i. h z (inr i)))

-- ---- lengths

-- no name comes before itself
not_before_itself : (x : List ℕ) → name_cmp x x ≡ Less → ⊥
not_before_itself x h = let e = tied_itself nat_list_cmp_total x in let no : ⊥ = cc in no

-- names in order that are among others in order are no more than these
pub no_more : (others names : List (List ℕ)) → IsRising name_cmp others → IsRising name_cmp names → ((n : List ℕ) → In names n → In others n) → length names ≤ length others
no_more [] [] a b among = omega arith
no_more [] (n ∷ names) a b among = absurd (among n (inl refl))
no_more (o ∷ others) [] a b among = omega arith
no_more (o ∷ others) (n ∷ names) a b among = elim (among n (inl refl)) [
  | inl e ↦ (let h = no_more others names a.1 b.1 (λ z i. elim (among z (inr i)) [
    | inl f ↦ absurd (not_before_itself z (subst (λ w. name_cmp w z ≡ Less) (sym e ∙ f) (b.0 z i)))
    | inr j ↦ j
  ]) in omega (arith, h))
  | inr k ↦ (let h = no_more others (n ∷ names) a.1 b (λ z i. elim (among z i) [
    | inl f ↦ absurd (elim i [
      | inl s ↦ not_before_itself o (subst (λ w. name_cmp o w ≡ Less) (s ∙ sym f) (a.0 n k))
      | inr j ↦ not_before_itself o (nat_list_cmp_total.trans o n o (a.0 n k) (subst (λ w. name_cmp n w ≡ Less) (sym f) (b.0 z j)))
    ])
    | inr j ↦ j
  ]) in omega (arith, h))
]

-- a part of a list has no more elements
pub filtered : {X : Type 0} (t : X → Bool) (xs : List X) → length (filter t xs) ≤ length xs
filtered t [] = omega arith
filtered {X} t (x ∷ xs) = go (t x) (filtered t xs)
  where
    go : (b : Bool) → length (filter t xs) ≤ length xs → length (if b then x ∷ filter t xs else filter t xs) ≤ length (x ∷ xs)
    go true h = omega (arith, h)
    go false h = omega (arith, h)
