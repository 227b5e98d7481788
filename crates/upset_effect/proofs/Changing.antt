-- Whether the sources of a wire are others after a flip.
use Rattle.std.proofs.Common.{◌≡◌, ℕ, Bool, true, false, not, eqb, ◌&&◌, ◌⊎◌, ◌↔◌, List, [], ◌∷◌, refl, sym, subst, inl, inr, eq-eqb}
use Rattle.std.specs.Ordering.{nat_cmp}
use Rattle.std.specs.Cmp.Lexicographic.{pointwise}
use Rattle.std.proofs.lemmas.Bool.{and_from, and_parts, eqb-true, false≢true}
use Rattle.std.proofs.lemmas.Cmp.{nat_cmp_total}
use Rattle.std.proofs.lemmas.Slice.Eq.{slice_eq-Decides}
use Rattle.words.specs.Members.{In}
use Rattle.links.proofs.Members.{is_in, same_number}
use Rattle.fabric_laws.proofs.Sorted.{determined}
use Rattle.upset_effect.specs.Reach.{AreThose}

pub same_wires : (xs ys : List ℕ) (r : Bool) → r ≡ pointwise (λ x y. eqb x y && true) xs ys → (r ≡ true → xs ≡ ys) × (xs ≡ ys → r ≡ true)
same_wires xs ys r h =
    slice_eq-Decides (λ a b. ((λ e. eqb-true a b (and_parts (eqb a b) true e).0), (λ e. and_from (eqb a b) true (eq-eqb a b e) refl))) xs ys r h

-- an element of one list that the other doesn't have, or none
one_outside : (xs ys : List ℕ) → ((x : ℕ) × (In xs x × (In ys x → ⊥))) ⊎ ((x : ℕ) → In xs x → In ys x)
one_outside [] ys = inr (λ x i. absurd i)
one_outside (x ∷ xs) ys = elim (is_in same_number ys x) [
  | inr n ↦ inl (x, (inl refl, n))
  | inl i ↦ elim (one_outside xs ys) [
    | inl r ↦ inl (r.0, (inr r.1.0, r.1.1))
    | inr all ↦ inr (λ z j. elim j [ inl e ↦ subst (In ys) e i | inr k ↦ all z k ])
  ]
]

-- one has a property and not the other
abbrev pub Differ : (ℕ → Type 0) → (ℕ → Type 0) → Type 0
Differ P Q = (x : ℕ) × ((P x × (Q x → ⊥)) ⊎ (Q x × (P x → ⊥)))

module _ (P Q : ℕ → Type 0) (xs ys : List ℕ) (p : AreThose P xs) (q : AreThose Q ys) where
  differ_from : (xs ≡ ys → ⊥) → Differ P Q
  differ_from n = elim (one_outside xs ys) [
    | inl r ↦ (r.0, inl ((p.members r.0).0 r.1.0, λ h. r.1.1 ((q.members r.0).1 h)))
    | inr f ↦ elim (one_outside ys xs) [
      | inl r ↦ (r.0, inr ((q.members r.0).0 r.1.0, λ h. r.1.1 ((p.members r.0).1 h)))
      | inr g ↦ absurd (n (determined nat_cmp nat_cmp_total xs ys p.rising q.rising f g))
    ]
  ]

  differ_to : Differ P Q → xs ≡ ys → ⊥
  differ_to h e = elim h.1 [
    | inl a ↦ a.1 ((q.members h.0).0 (subst (λ (zs : List ℕ). In zs h.0) e ((p.members h.0).1 a.0)))
    | inr b ↦ b.1 ((p.members h.0).0 (subst (λ (zs : List ℕ). In zs h.0) (sym e) ((q.members h.0).1 b.0)))
  ]

  pub differ : (same : Bool) → (same ≡ true → xs ≡ ys) × (xs ≡ ys → same ≡ true) → (not same ≡ true) ↔ Differ P Q
  differ true t = ((λ h. absurd (false≢true h)), (λ h. absurd (differ_to h (t.0 refl))))
  differ false t = ((λ h. differ_from (λ e. false≢true (t.1 e))), (λ h. refl))
