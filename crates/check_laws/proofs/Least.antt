-- Where an element has a property, one of those that have it is least: of the elements of a list in a total order, and
-- of all numbers. It is told only where something false is to be shown, so the property needn't be decided.
use Rattle.std.proofs.Common.{◌≡◌, ◌≢◌, ℕ, zero, suc, ◌<◌, ◌⊎◌, inl, inr, List, [], ◌∷◌, refl, sym, subst, ◌∙◌, ap, arith}
use Rattle.std.specs.declared.cmp.Ordering.{Ordering}
use Rattle.std.specs.declared.cmp.Ordering.TheVariants.{Less, Equal, Greater}
use Rattle.std.specs.Ordering.{nat_cmp, ordering_reverse}
use Rattle.std.specs.Cmp.{IsTotalOrder, tied_itself, nat_cmp_is}
use Rattle.words.specs.Members.{In}
use Rattle.design_checks.specs.Checks.{IsLeast}

-- whether a property holds may be asked where something false is to be shown
pub excluded : (P : Type 0) → (P ⊎ (P → ⊥) → ⊥) → ⊥
excluded P h = h (inr (λ p. h (inl p)))

equal_greater : (o : Ordering) → o ≡ Equal → o ≡ Greater → ⊥
equal_greater o h k = (let no : ⊥ = cc in no)

less_greater : (o : Ordering) → o ≡ Less → o ≡ Greater → ⊥
less_greater o h k = (let no : ⊥ = cc in no)

less_equal : (o : Ordering) → o ≡ Less → o ≡ Equal → ⊥
less_equal o h k = (let no : ⊥ = cc in no)

pub data IsOne (o : Ordering) : Type 0 where
  is_less : o ≡ Less → IsOne o
  is_equal : o ≡ Equal → IsOne o
  is_greater : o ≡ Greater → IsOne o

pub which : (o : Ordering) → IsOne o
which Less = is_less refl
which Equal = is_equal refl
which Greater = is_greater refl

module _ {X : Type 0} (cmp : X → X → Ordering) (total : IsTotalOrder cmp) where
  pub turned : (x y : X) → cmp x y ≡ Greater → cmp y x ≡ Less
  turned x y h = total.antisymm y x ∙ ap ordering_reverse h

  turned_back : (x y : X) → cmp x y ≡ Less → cmp y x ≡ Greater
  turned_back x y h = total.antisymm y x ∙ ap ordering_reverse h

  turned_equal : (x y : X) → cmp x y ≡ Equal → cmp y x ≡ Equal
  turned_equal x y h = total.antisymm y x ∙ ap ordering_reverse h

  -- what comes before an element comes before what doesn't come before it
  before_on : (x y z : X) → cmp x y ≡ Less → cmp y z ≢ Greater → cmp x z ≢ Greater
  before_on x y z h n g = elim (which (cmp y z)) [
    | is_less k ↦ less_greater (cmp x z) (total.trans x y z h k) g
    | is_equal k ↦ less_greater (cmp y x) (total.congr y z x k ∙ turned x z g) (turned_back x y h)
    | is_greater k ↦ n k
  ]

  -- of two elements neither of which comes after the other, they tie
  pub tie : (x y : X) → cmp x y ≢ Greater → cmp y x ≢ Greater → cmp x y ≡ Equal
  tie x y n m = elim (which (cmp x y)) [
    | is_less k ↦ absurd (m (turned_back x y k))
    | is_equal k ↦ k
    | is_greater k ↦ absurd (n k)
  ]

  module _ (Has : X → Type 0) where
    best : (xs : List X) (x : X) → Has x → ((y : X) → Has y → ((z : X) → In xs z → Has z → cmp y z ≢ Greater) → ⊥) → ⊥
    best [] x h found = found x h (λ z i k. absurd i)
    best (z ∷ zs) x h found = best zs x h (λ y p r. go y p r (which (cmp y z)))
      where
        kept : (y : X) → Has y → ((w : X) → In zs w → Has w → cmp y w ≢ Greater) → (Has z → cmp y z ≢ Greater) → ⊥
        kept y p r n = found y p (λ w i k. elim i [
          | inl e ↦ subst (λ v. cmp y v ≢ Greater) e (n (subst Has (sym e) k))
          | inr j ↦ r w j k
        ])

        taken : (y : X) → ((w : X) → In zs w → Has w → cmp y w ≢ Greater) → cmp y z ≡ Greater → Has z → ⊥
        taken y r g q = found z q (λ w i k. elim i [
          | inl e ↦ subst (λ v. cmp z v ≢ Greater) e (λ c. equal_greater (cmp z z) (tied_itself total z) c)
          | inr j ↦ before_on z y w (turned y z g) (r w j k)
        ])

        go : (y : X) → Has y → ((w : X) → In zs w → Has w → cmp y w ≢ Greater) → IsOne (cmp y z) → ⊥
        go y p r (is_less e) = kept y p r (λ k g. less_greater (cmp y z) e g)
        go y p r (is_equal e) = kept y p r (λ k g. equal_greater (cmp y z) e g)
        go y p r (is_greater e) = kept y p r (λ k g. taken y r e k)

    -- where those that have the property stand in a list, and none of them is least, none has it
    pub no_least : (xs : List X) → ((x : X) → Has x → In xs x) → ((x : X) → IsLeast cmp Has x → ⊥) → (x : X) → Has x → ⊥
    no_least xs all none x h = best xs x h (λ y p r. none y (record { has = p; least = λ z k. r z (all z k) k }))

-- ---- numbers

after_greater : (m n : ℕ) → nat_cmp m n ≡ Greater → n < m
after_greater m n h = grind (arith, nat_cmp_is)

suc_cases : (m n : ℕ) → m < suc n → (m < n) ⊎ (m ≡ n)
suc_cases m n h = grind arith

module _ (Has : ℕ → Type 0) (none : (n : ℕ) → IsLeast nat_cmp Has n → ⊥) where
  none_below : (n m : ℕ) → m < n → Has m → ⊥
  none_below zero m l h = absurd (let no : ⊥ = omega arith in no)
  none_below (suc n) m l h = elim (suc_cases m n l) [
    | inl k ↦ none_below n m k h
    | inr e ↦ none m (record { has = h; least = λ y k g. none_below n y (let b : y < m = after_greater m y g in subst (λ z. y < z) e b) k })
  ]

  pub no_least_number : (n : ℕ) → Has n → ⊥
  no_least_number n h = none_below (suc n) n (let l : n < suc n = omega arith in l) h
