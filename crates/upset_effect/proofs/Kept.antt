-- Those of a rising list that have a property, element by element; and rising lists that differ.
use Rattle.std.proofs.Common.{◌≡◌, ℕ, ◌+◌, ◌<◌, ◌≤◌, ◌↔◌, ◌⊎◌, Bool, true, false, cond, List, [], ◌∷◌, ◌++◌, length, take, drop, get_or, zero, suc, refl, sym, ap, subst, ◌∙◌, inl, inr, arith}
use Rattle.std.specs.Ordering.{nat_cmp}
use Rattle.std.proofs.lemmas.Bool.{false≢true}
use Rattle.std.proofs.lemmas.List.{append-nil, append_assoc, take_all, take_more}
use Rattle.words.specs.Members.{In}
use Rattle.links.proofs.Members.{in_either, in_left, in_right}
use Rattle.fabric.specs.InOrder.{IsRising}
use Rattle.upset_effect.specs.Reach.{AreThose}

-- those of the first elements that have the property are kept, and they rise with the elements behind
pub record Keeps (P : ℕ → Type 0) (xs : List ℕ) (i : ℕ) (kept : List ℕ) : Type 0 where
  pub rising : IsRising nat_cmp (kept ++ drop i xs)
  pub members : (x : ℕ) → In kept x ↔ (In (take i xs) x × P x)

drop_all : (i : ℕ) (xs : List ℕ) → length xs ≤ i → drop i xs ≡ []
drop_all zero [] h = refl
drop_all zero (x ∷ xs) h = absurd (omega arith)
drop_all (suc i) [] h = refl
drop_all (suc i) (x ∷ xs) h = drop_all i xs (omega arith)

drop_more : (i : ℕ) (xs : List ℕ) (x : ℕ) → i < length xs → x ≡ get_or xs i x → drop i xs ≡ x ∷ drop (i + 1) xs
drop_more i [] x h e = absurd (omega arith)
drop_more zero (y ∷ xs) x h e = ap (λ z. z ∷ xs) (sym e)
drop_more (suc i) (y ∷ xs) x h e =
    let same : suc i + 1 ≡ suc (i + 1) = omega arith in
    subst (λ (n : ℕ). drop (suc i) (y ∷ xs) ≡ x ∷ drop n (y ∷ xs)) (sym same) (drop_more i xs x (omega arith) e)

without : (kept : List ℕ) (x : ℕ) (rest : List ℕ) → IsRising nat_cmp (kept ++ x ∷ rest) → IsRising nat_cmp (kept ++ rest)
without [] x rest h = h.1
without (k ∷ kept) x rest h = (
  (λ y i. h.0 y (elim (in_either kept rest y i) [ inl a ↦ in_left kept (x ∷ rest) y a | inr b ↦ in_right kept (x ∷ rest) y (inr b) ])),
  without kept x rest h.1,
)

module _ (P : ℕ → Type 0) (xs : List ℕ) where
  pub keeps_none : IsRising nat_cmp xs → Keeps P xs 0 []
  keeps_none h = record { rising = h; members = λ x. ((λ i. absurd i), (λ h. absurd h.0)) }

  pub keeps_more : (i x : ℕ) (b : Bool) (kept new : List ℕ) → i < length xs → x ≡ get_or xs i x → (b ≡ true) ↔ P x → new ≡ cond b (kept ++ x ∷ []) kept
      → Keeps P xs i kept → Keeps P xs (i + 1) new
  keeps_more i x b kept new below is told made k = subst (Keeps P xs (i + 1)) (sym made) (go b told)
    where
      rest : IsRising nat_cmp (kept ++ x ∷ drop (i + 1) xs)
      rest = subst (λ (zs : List ℕ). IsRising nat_cmp (kept ++ zs)) (drop_more i xs x below is) k.rising

      front : take (i + 1) xs ≡ take i xs ++ x ∷ []
      front = take_more xs i x below ∙ ap (λ z. take i xs ++ z ∷ []) (sym is)

      in_front : (y : ℕ) → In (take (i + 1) xs) y → In (take i xs) y ⊎ (x ≡ y)
      in_front y j = elim (in_either (take i xs) (x ∷ []) y (subst (λ (zs : List ℕ). In zs y) front j)) [ inl a ↦ inl a | inr c ↦ elim c [ inl e ↦ inr e | inr n ↦ absurd n ] ]

      to_front : (y : ℕ) → In (take i xs) y ⊎ (x ≡ y) → In (take (i + 1) xs) y
      to_front y (inl a) = subst (λ (zs : List ℕ). In zs y) (sym front) (in_left (take i xs) (x ∷ []) y a)
      to_front y (inr e) = subst (λ (zs : List ℕ). In zs y) (sym front) (in_right (take i xs) (x ∷ []) y (inl e))

      go : (c : Bool) → (c ≡ true) ↔ P x → Keeps P xs (i + 1) (cond c (kept ++ x ∷ []) kept)
      go true t = record {
        rising = subst (IsRising nat_cmp) (sym (append_assoc kept (x ∷ []) (drop (i + 1) xs))) rest;
        members = λ y. (
          (λ j. elim (in_either kept (x ∷ []) y j) [
            | inl a ↦ (let r = (k.members y).0 a in (to_front y (inl r.0), r.1))
            | inr d ↦ elim d [ inl e ↦ (to_front y (inr e), subst P e (t.0 refl)) | inr n ↦ absurd n ]
          ]),
          (λ h. elim (in_front y h.0) [
            | inl a ↦ in_left kept (x ∷ []) y ((k.members y).1 (a, h.1))
            | inr e ↦ in_right kept (x ∷ []) y (inl e)
          ]),
        );
      }
      go false t = record {
        rising = without kept x (drop (i + 1) xs) rest;
        members = λ y. (
          (λ j. let r = (k.members y).0 j in (to_front y (inl r.0), r.1)),
          (λ h. elim (in_front y h.0) [
            | inl a ↦ (k.members y).1 (a, h.1)
            | inr e ↦ absurd (false≢true (t.1 (subst P (sym e) h.1)))
          ]),
        );
      }

  pub keeps_all : (i : ℕ) (kept : List ℕ) → length xs ≤ i → Keeps P xs i kept → AreThose (λ x. In xs x × P x) kept
  keeps_all i kept past k = record {
    rising = subst (IsRising nat_cmp) (ap (λ (zs : List ℕ). kept ++ zs) (drop_all i xs past) ∙ append-nil kept) k.rising;
    members = λ x. subst (λ (zs : List ℕ). In kept x ↔ (In zs x × P x)) (take_all i xs past) (k.members x);
  }

-- those of a list are those with its property
pub kept_of : (D C : ℕ → Type 0) (xs kept : List ℕ) → AreThose D xs → AreThose (λ x. In xs x × C x) kept → AreThose (λ x. D x × C x) kept
kept_of D C xs kept d k = record {
  rising = k.rising;
  members = λ x. (
    (λ i. let r = (k.members x).0 i in ((d.members x).0 r.0, r.1)),
    (λ h. (k.members x).1 ((d.members x).1 h.0, h.1)),
  );
}
