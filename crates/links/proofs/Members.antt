-- Facts on membership, and what can be decided over a finite list.
use Rattle.std.proofs.Common.{◌≡◌, ◌≢◌, ℕ, Bool, true, false, List, [], ◌∷◌, ◌++◌, map, ◌⊎◌, inl, inr, refl, sym, ap, subst, arith, eqb}
use Rattle.std.proofs.lemmas.Bool.Decides.{nat_tests}
use Rattle.std.specs.List.{flat_map}
use Rattle.words.specs.Members.{In}

pub in_left : {X : Type 0} (xs ys : List X) (x : X) → In xs x → In (xs ++ ys) x
in_left [] ys x h = absurd h
in_left (z ∷ xs) ys x h = elim h [ inl e ↦ inl e | inr n ↦ inr (in_left xs ys x n) ]

pub in_right : {X : Type 0} (xs ys : List X) (x : X) → In ys x → In (xs ++ ys) x
in_right [] ys x h = h
in_right (z ∷ xs) ys x h = inr (in_right xs ys x h)

pub in_either : {X : Type 0} (xs ys : List X) (x : X) → In (xs ++ ys) x → In xs x ⊎ In ys x
in_either [] ys x h = inr h
in_either (z ∷ xs) ys x h = elim h [
  | inl e ↦ inl (inl e)
  | inr j ↦ elim (in_either xs ys x j) [ inl k ↦ inl (inr k) | inr k ↦ inr k ]
]

pub in_map : {X Y : Type 0} (f : X → Y) (xs : List X) (x : X) → In xs x → In (map f xs) (f x)
in_map f [] x h = absurd h
in_map f (z ∷ xs) x h = elim h [ inl e ↦ inl (ap f e) | inr j ↦ inr (in_map f xs x j) ]

pub of_map : {X Y : Type 0} (f : X → Y) (xs : List X) (y : Y) → In (map f xs) y → (x : X) × (In xs x × (f x ≡ y))
of_map f [] y h = absurd h
of_map f (z ∷ xs) y h = elim h [ inl e ↦ (z, (inl refl, e)) | inr j ↦ (let g = of_map f xs y j in (g.0, (inr g.1.0, g.1.1))) ]

pub in_flat_map : {X Y : Type 0} (f : X → List Y) (xs : List X) (x : X) (y : Y) → In xs x → In (f x) y → In (flat_map f xs) y
in_flat_map f [] x y h i = absurd h
in_flat_map f (z ∷ xs) x y h i = elim h [
  | inl e ↦ in_left (f z) (flat_map f xs) y (subst (λ u. In (f u) y) (sym e) i)
  | inr j ↦ in_right (f z) (flat_map f xs) y (in_flat_map f xs x y j i)
]

pub of_flat_map : {X Y : Type 0} (f : X → List Y) (xs : List X) (y : Y) → In (flat_map f xs) y → (x : X) × (In xs x × In (f x) y)
of_flat_map f [] y h = absurd h
of_flat_map f (z ∷ xs) y h = elim (in_either (f z) (flat_map f xs) y h) [
  | inl i ↦ (z, (inl refl, i))
  | inr j ↦ (let g = of_flat_map f xs y j in (g.0, (inr g.1.0, g.1.1)))
]

-- an element with a property, or none
pub any_of : {X : Type 0} (P : X → Type 0) → ((x : X) → P x ⊎ (P x → ⊥)) → (xs : List X)
    → ((x : X) × (In xs x × P x)) ⊎ ((x : X) → In xs x → P x → ⊥)
any_of P test [] = inr (λ x i h. i)
any_of P test (y ∷ ys) = elim (test y) [
  | inl h ↦ inl (y, (inl refl, h))
  | inr g ↦ elim (any_of P test ys) [
    | inl h ↦ inl (h.0, (inr h.1.0, h.1.1))
    | inr k ↦ inr (λ x i h. elim i [ inl e ↦ g (subst P (sym e) h) | inr j ↦ k x j h ])
  ]
]

number_test : (x y : ℕ) (b : Bool) → eqb x y ≡ b → (x ≡ y) ⊎ (x ≢ y)
number_test x y true e = inl (grind (arith, nat_tests))
number_test x y false e = inr (λ h. grind (arith, nat_tests))

-- two numbers can be told apart
pub same_number : (x y : ℕ) → (x ≡ y) ⊎ (x ≢ y)
same_number x y = number_test x y (eqb x y) refl

-- membership of a list can be decided where its elements can be told apart
pub is_in : {X : Type 0} → ((x y : X) → (x ≡ y) ⊎ (x ≢ y)) → (xs : List X) (x : X) → In xs x ⊎ (In xs x → ⊥)
is_in same [] x = inr (λ h. h)
is_in same (y ∷ ys) x = elim (same y x) [
  | inl e ↦ inl (inl e)
  | inr h ↦ elim (is_in same ys x) [ inl i ↦ inl (inr i) | inr g ↦ inr (λ j. elim j [ inl e ↦ h e | inr k ↦ g k ]) ]
]
