-- A list in order of all that has a property, and the least that has it: whether there is one can be decided.
use Rattle.std.proofs.Common.{◌≡◌, ◌≢◌, ◌⊎◌, ◌↔◌, inl, inr, List, [], ◌∷◌, refl, sym, ap, subst, ◌∙◌}
use Rattle.std.specs.declared.cmp.Ordering.{Ordering}
use Rattle.std.specs.declared.cmp.Ordering.TheVariants.{Less, Equal, Greater}
use Rattle.std.specs.Ordering.{ordering_reverse}
use Rattle.std.specs.Cmp.{IsTotalOrder}
use Rattle.words.specs.Members.{In}
use Rattle.fabric.specs.InOrder.{IsRising}
use Rattle.fabric_laws.specs.Insertion.{sorted_once}
use Rattle.fabric_laws.proofs.Sorted.{sorted}
use Rattle.words.proofs.Decided.{Decided, both, never, decided_by, some_in}
use Rattle.route_laws.proofs.Usable.{all_in, if_then}
use Rattle.design_checks.specs.Checks.{IsLeast}
use Rattle.check_laws.proofs.Least.{no_least}

-- a list in order holds just what has a property
pub record IsOrderOf {X : Type 0} (cmp : X → X → Ordering) (Has : X → Type 0) (xs : List X) : Type 0 where
  pub rising : IsRising cmp xs
  pub members : (x : X) → In xs x ↔ Has x

-- of two elements one comes before the other, they tie, or it comes after
ties_decided : (o : Ordering) → Decided (o ≡ Equal)
ties_decided Less = inr (λ e. let no : ⊥ = cc in no)
ties_decided Equal = inl refl
ties_decided Greater = inr (λ e. let no : ⊥ = cc in no)

after_decided : (o : Ordering) → Decided (o ≢ Greater)
after_decided Less = inl (λ e. let no : ⊥ = cc in no)
after_decided Equal = inl (λ e. let no : ⊥ = cc in no)
after_decided Greater = inr (λ n. n refl)

less_ties : (o : Ordering) → o ≡ Less → o ≡ Equal → ⊥
less_ties o h k = (let no : ⊥ = cc in no)

module _ {X : Type 0} (cmp : X → X → Ordering) (total : IsTotalOrder cmp) where
  -- in a list in order elements that tie are one
  tied : (xs : List X) → IsRising cmp xs → (x y : X) → In xs x → In xs y → cmp x y ≡ Equal → y ≡ x
  tied [] r x y i j e = absurd i
  tied (z ∷ zs) r x y i j e = elim i [
    | inl p ↦ elim j [ inl q ↦ sym q ∙ p | inr k ↦ absurd (less_ties (cmp x y) (subst (λ w. cmp w y ≡ Less) p (r.0 y k)) e) ]
    | inr k ↦ elim j [
      | inl q ↦ absurd (less_ties (cmp y x) (subst (λ w. cmp w x ≡ Less) q (r.0 x k)) (total.antisymm y x ∙ ap ordering_reverse e))
      | inr m ↦ tied zs r.1 x y k m e
    ]
  ]

  module _ (Has : X → Type 0) (named : List X) (law : (x : X) → In named x ↔ Has x) where
    -- where elements that tie are one, there is the list in order
    pub ordered : ((x y : X) → In named x → In named y → cmp x y ≡ Equal → y ≡ x) → (xs : List X) × IsOrderOf cmp Has xs
    ordered ties =
        let s = sorted cmp total named ties in
        (sorted_once cmp named, record { rising = s.rising; members = λ x. ((λ i. (law x).0 ((s.members x).0 i)), (λ h. (s.members x).1 ((law x).1 h))) })

    -- otherwise there is none
    pub is_ordered : ((x y : X) → (x ≡ y) ⊎ (x ≢ y)) → Decided ((xs : List X) × IsOrderOf cmp Has xs)
    is_ordered told = decided_by
        (λ ties. ordered (λ x y i j e. ties x i y j e))
        (λ h x i y j e. tied h.0 h.1.rising x y ((h.1.members x).1 ((law x).0 i)) ((h.1.members y).1 ((law y).0 j)) e)
        (all_in (λ x. (y : X) → In named y → cmp x y ≡ Equal → y ≡ x)
        (λ x. all_in (λ y. cmp x y ≡ Equal → y ≡ x) (λ y. if_then (ties_decided (cmp x y)) (told y x)) named) named)

  -- one of the elements that have a property is least, or none has it
  pub least_or_none : (Has : X → Type 0) → ((x : X) → Decided (Has x)) → (xs : List X) → ((x : X) → Has x → In xs x) → ((x : X) × IsLeast cmp Has x) ⊎ ((x : X) → Has x → ⊥)
  least_or_none Has test xs all = elim (some_in (IsLeast cmp Has) is_least xs) [
    | inl h ↦ inl (h.0, h.1.1)
    | inr n ↦ inr (no_least cmp total Has xs all (λ y l. n (y, (all y l.has, l))))
  ]
    where
      is_least : (x : X) → Decided (IsLeast cmp Has x)
      is_least x = decided_by
          (λ h. record { has = h.0; least = λ y k. h.1 y (all y k) k })
          (λ l. (l.has, (λ y i k. l.least y k)))
          (both (test x) (all_in (λ y. Has y → cmp x y ≢ Greater) (λ y. if_then (test y) (after_decided (cmp x y))) xs))

  -- one element of a list comes after none of it, or the list is empty
  pub least_in : (xs : List X) → ((x : X) × IsLeast cmp (In xs) x) ⊎ ((x : X) → In xs x → ⊥)
  least_in xs = elim (some_in (λ x. (y : X) → In xs y → cmp x y ≢ Greater) (λ x. all_in (λ y. cmp x y ≢ Greater) (λ y. after_decided (cmp x y)) xs) xs) [
    | inl h ↦ inl (h.0, record { has = h.1.0; least = h.1.1 })
    | inr n ↦ inr (no_least cmp total (In xs) xs (λ x i. i) (λ x l. n (x, (l.has, l.least))))
  ]

-- what is made of the elements of a list that have a property
pub gathered : {X Y : Type 0} (P : X → Type 0) → ((x : X) → Decided (P x)) → (make : (x : X) → P x → Y) → (xs : List X)
    → (ys : List Y) × ((x : X) → In xs x → P x → (p : P x) × In ys (make x p))
gathered P test make [] = ([], λ x i p. absurd i)
gathered {X} {Y} P test make (x ∷ xs) = go (test x) (gathered P test make xs)
  where
    go : Decided (P x) → ((ys : List Y) × ((z : X) → In xs z → P z → (p : P z) × In ys (make z p))) → (ys : List Y) × ((z : X) → In (x ∷ xs) z → P z → (p : P z) × In ys (make z p))
    go (inl p) rest = (
      make x p ∷ rest.0,
      λ z i q. elim i [
        | inl e ↦ subst (λ w. (r : P w) × In (make x p ∷ rest.0) (make w r)) e (p, inl refl)
        | inr j ↦ (let r = rest.1 z j q in (r.0, inr r.1))
      ],
    )
    go (inr n) rest = (rest.0, λ z i q. elim i [ inl e ↦ absurd (n (subst P (sym e) q)) | inr j ↦ rest.1 z j q ])
