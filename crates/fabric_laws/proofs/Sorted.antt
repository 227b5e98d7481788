-- Lists in order, each element once: a list of given members is determined, and insertion makes one.
use Rattle.std.proofs.Common.{◌≡◌, ◌⊎◌, inl, inr, List, [], ◌∷◌, refl, sym, ap₂, subst, ◌∙◌}
use Rattle.std.specs.declared.cmp.Ordering.{Ordering}
use Rattle.std.specs.declared.cmp.Ordering.TheVariants.{Less, Equal, Greater}
use Rattle.std.specs.Ordering.{ordering_reverse, match_ordering}
use Rattle.std.specs.Cmp.{IsTotalOrder}
use Rattle.words.specs.Members.{In}
use Rattle.fabric.specs.InOrder.{IsRising, InOrderOnce}
use Rattle.fabric_laws.specs.Insertion.{inserted, sorted_once}

turned_less : (o : Ordering) → ordering_reverse o ≡ Less → o ≡ Greater
turned_less Less h = absurd (let no : ⊥ = cc in no)
turned_less Equal h = absurd (let no : ⊥ = cc in no)
turned_less Greater h = refl

turned_greater : (o : Ordering) → ordering_reverse o ≡ Greater → o ≡ Less
turned_greater Less h = refl
turned_greater Equal h = absurd (let no : ⊥ = cc in no)
turned_greater Greater h = absurd (let no : ⊥ = cc in no)

module _ {X : Type 0} (cmp : X → X → Ordering) (total : IsTotalOrder cmp) where
  -- no two elements come before each other
  apart : (x y : X) → cmp x y ≡ Less → cmp y x ≡ Less → ⊥
  apart x y p q = let t = turned_less (cmp y x) (sym (total.antisymm x y) ∙ p) in let no : ⊥ = cc in no

  -- two lists in order with the same members are equal
  pub determined : (xs ys : List X) → IsRising cmp xs → IsRising cmp ys → ((x : X) → In xs x → In ys x) → ((x : X) → In ys x → In xs x) → xs ≡ ys
  determined [] [] p q f g = refl
  determined [] (y ∷ ys) p q f g = absurd (g y (inl refl))
  determined (x ∷ xs) [] p q f g = absurd (f x (inl refl))
  determined (x ∷ xs) (y ∷ ys) p q f g = ap₂ (λ a b. a ∷ b) heads (determined xs ys p.1 q.1 onward back)
    where
      heads : x ≡ y
      heads = elim (f x (inl refl)) [
        | inl e ↦ sym e
        | inr i ↦ elim (g y (inl refl)) [ inl e ↦ e | inr j ↦ absurd (apart x y (p.0 y j) (q.0 x i)) ]
      ]

      onward : (z : X) → In xs z → In ys z
      onward z i = elim (f z (inr i)) [ inl e ↦ absurd (apart x z (p.0 z i) (subst (λ w. cmp w x ≡ Less) (heads ∙ e) (subst (λ w. cmp x w ≡ Less) (sym (heads ∙ e)) (p.0 z i)))) | inr j ↦ j ]

      back : (z : X) → In ys z → In xs z
      back z i = elim (g z (inr i)) [ inl e ↦ absurd (apart y z (q.0 z i) (subst (λ w. cmp w y ≡ Less) (sym heads ∙ e) (subst (λ w. cmp y w ≡ Less) (sym (sym heads ∙ e)) (q.0 z i)))) | inr j ↦ j ]

  pub one_list : (named xs ys : List X) → InOrderOnce cmp named xs → InOrderOnce cmp named ys → xs ≡ ys
  one_list named xs ys p q = determined xs ys p.rising q.rising (λ x i. (q.members x).1 ((p.members x).0 i)) (λ x i. (p.members x).1 ((q.members x).0 i))

  -- what is in a list with an element put in, where elements that tie are one
  pub inserted_from : (x : X) (ys : List X) (z : X) → In (inserted cmp x ys) z → (x ≡ z) ⊎ In ys z
  inserted_from x [] z i = elim i [ inl e ↦ inl e | inr j ↦ absurd j ]
  inserted_from x (y ∷ ys) z i = go (cmp x y) i (inserted_from x ys z)
    where
      go : (o : Ordering) → In (match_ordering o (x ∷ y ∷ ys) (y ∷ ys) (y ∷ inserted cmp x ys)) z → (In (inserted cmp x ys) z → (x ≡ z) ⊎ In ys z) → (x ≡ z) ⊎ In (y ∷ ys) z
      go Less k ih = k
      go Equal k ih = inr k
      go Greater k ih = elim k [ inl e ↦ inr (inl e) | inr j ↦ elim (ih j) [ inl e ↦ inl e | inr l ↦ inr (inr l) ] ]

  pub inserted_old : (x : X) (ys : List X) (z : X) → In ys z → In (inserted cmp x ys) z
  inserted_old x [] z i = absurd i
  inserted_old x (y ∷ ys) z i = go (cmp x y) (inserted_old x ys z)
    where
      go : (o : Ordering) → (In ys z → In (inserted cmp x ys) z) → In (match_ordering o (x ∷ y ∷ ys) (y ∷ ys) (y ∷ inserted cmp x ys)) z
      go Less ih = inr i
      go Equal ih = i
      go Greater ih = elim i [ inl e ↦ inl e | inr j ↦ inr (ih j) ]

  pub inserted_new : (x : X) (ys : List X) → ((y : X) → In ys y → cmp x y ≡ Equal → y ≡ x) → In (inserted cmp x ys) x
  inserted_new x [] same = inl refl
  inserted_new x (y ∷ ys) same = go (cmp x y) refl (inserted_new x ys (λ z i. same z (inr i)))
    where
      go : (o : Ordering) → cmp x y ≡ o → In (inserted cmp x ys) x → In (match_ordering o (x ∷ y ∷ ys) (y ∷ ys) (y ∷ inserted cmp x ys)) x
      go Less e ih = inl refl
      go Equal e ih = inl (same y (inl refl) e)
      go Greater e ih = inr ih

  pub inserted_rising : (x : X) (ys : List X) → IsRising cmp ys → IsRising cmp (inserted cmp x ys)
  inserted_rising x [] r = ((λ y i. absurd i), tt)
  inserted_rising x (y ∷ ys) r = go (cmp x y) refl (inserted_rising x ys r.1)
    where
      go : (o : Ordering) → cmp x y ≡ o → IsRising cmp (inserted cmp x ys) → IsRising cmp (match_ordering o (x ∷ y ∷ ys) (y ∷ ys) (y ∷ inserted cmp x ys))
      go Less e ih = ((λ z i. elim i [ inl s ↦ subst (λ w. cmp x w ≡ Less) s e | inr j ↦ total.trans x y z e (r.0 z j) ]), r)
      go Equal e ih = r
      go Greater e ih = (
        (λ z i. elim (inserted_from x ys z i) [ inl s ↦ subst (λ w. cmp y w ≡ Less) s (turned_greater (cmp y x) (sym (total.antisymm x y) ∙ e)) | inr j ↦ r.0 z j ]),
        ih,
      )

  -- insertion of each element of a list gives its members in order, each once
  pub sorted : (named : List X) → ((x y : X) → In named x → In named y → cmp x y ≡ Equal → y ≡ x) → InOrderOnce cmp named (sorted_once cmp named)
  sorted [] same = record { rising = tt; members = λ x. ((λ i. i), (λ i. i)) }
  sorted (x ∷ xs) same = step (sorted xs (λ a b i j. same a b (inr i) (inr j)))
    where
      step : InOrderOnce cmp xs (sorted_once cmp xs) → InOrderOnce cmp (x ∷ xs) (inserted cmp x (sorted_once cmp xs))
      step rest = record {
        rising = inserted_rising x (sorted_once cmp xs) rest.rising;
        members = λ z. (
          (λ i. elim (inserted_from x (sorted_once cmp xs) z i) [ inl e ↦ inl e | inr j ↦ inr ((rest.members z).0 j) ]),
          (λ i. elim i [
            | inl e ↦ subst (In (inserted cmp x (sorted_once cmp xs))) e (inserted_new x (sorted_once cmp xs) (λ y j. same x y (inl refl) (inr ((rest.members y).0 j))))
            | inr j ↦ inserted_old x (sorted_once cmp xs) z ((rest.members z).1 j)
          ]),
        );
      }
