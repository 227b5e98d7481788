-- Lists of bits that rise.
use Rattle.std.proofs.Common.{◌≡◌, ℕ, zero, suc, ◌-◌, ◌<◌, List, [], ◌∷◌, ◌++◌, length, take, get_or, Some, ◌⊎◌, inl, inr, refl, sym, ap, subst, ◌∙◌, arith}
use Rattle.std.specs.Prelude.{slice_get}
use Rattle.std.specs.declared.cmp.Ordering.{Ordering}
use Rattle.std.specs.declared.cmp.Ordering.TheVariants.{Less, Equal}
use Rattle.words.specs.Members.{In}
use Rattle.links.proofs.Members.{in_either}
use Rattle.fabric.specs.InOrder.{IsRising}
use Rattle.fabric_laws.proofs.Numbered.{get_in}

module _ {X : Type 0} where
  -- a list with one more element at its end
  pub get_front : (xs : List X) (y x : X) (k : ℕ) → slice_get xs k ≡ Some x → slice_get (xs ++ y ∷ []) k ≡ Some x
  get_front [] y x k h = absurd (let no : ⊥ = cc in no)
  get_front (z ∷ xs) y x zero h = h
  get_front (z ∷ xs) y x (suc k) h = get_front xs y x k h

  pub get_end : (xs : List X) (y : X) → slice_get (xs ++ y ∷ []) (length xs) ≡ Some y
  get_end [] y = refl
  get_end (z ∷ xs) y = get_end xs y

  pub get_below : (xs : List X) (k : ℕ) (x : X) → slice_get xs k ≡ Some x → k < length xs
  get_below [] k x h = absurd (let no : ⊥ = cc in no)
  get_below (z ∷ xs) zero x h = omega arith
  get_below (z ∷ xs) (suc k) x h = (let less = get_below xs k x h in omega arith)

  pub at_place : (xs : List X) (k : ℕ) (d : X) → k < length xs → In xs (get_or xs k d)
  at_place [] k d below = absurd (omega arith)
  at_place (x ∷ xs) zero d below = inl refl
  at_place (x ∷ xs) (suc k) d below = inr (at_place xs k d (omega arith))

  pub or_is : (xs : List X) (k : ℕ) (x d : X) → slice_get xs k ≡ Some x → get_or xs k d ≡ x
  or_is [] k x d h = absurd (let no : ⊥ = cc in no)
  or_is (y ∷ xs) zero x d h = let e : y ≡ x = cc in e
  or_is (y ∷ xs) (suc k) x d h = or_is xs k x d h

module _ {X : Type 0} (cmp : X → X → Ordering) where
  pub rising_push : (xs : List X) (y : X) → IsRising cmp xs → ((x : X) → In xs x → cmp x y ≡ Less) → IsRising cmp (xs ++ y ∷ [])
  rising_push [] y rising below = ((λ z i. absurd i), tt)
  rising_push (x ∷ xs) y rising below = (
    (λ z i. elim (in_either xs (y ∷ []) z i) [ inl j ↦ rising.0 z j | inr j ↦ elim j [ inl e ↦ subst (λ w. cmp x w ≡ Less) e (below x (inl refl)) | inr n ↦ absurd n ] ]),
    rising_push xs y rising.1 (λ z i. below z (inr i)),
  )

  -- each element is the last one or comes before it
  pub last_of : (xs : List X) (y : X) → IsRising cmp xs → In xs y → (l : X) × ((slice_get xs (length xs - 1) ≡ Some l) × (In xs l × ((y ≡ l) ⊎ (cmp y l ≡ Less))))
  last_of [] y rising i = absurd i
  last_of (x ∷ []) y rising i = elim i [ inl e ↦ (x, (refl, (inl refl, inl (sym e)))) | inr n ↦ absurd n ]
  last_of (x ∷ z ∷ xs) y rising i =
      let e : suc (length (z ∷ xs) - 1) ≡ length (x ∷ z ∷ xs) - 1 = omega arith in
      elim i [
        | inl s ↦ (let later = last_of (z ∷ xs) z rising.1 (inl refl) in
            (later.0, (ap (slice_get (x ∷ z ∷ xs)) (sym e) ∙ later.1.0, (inr later.1.1.0, inr (subst (λ w. cmp w later.0 ≡ Less) s (rising.0 later.0 later.1.1.0))))))
        | inr j ↦ (let later = last_of (z ∷ xs) y rising.1 j in (later.0, (ap (slice_get (x ∷ z ∷ xs)) (sym e) ∙ later.1.0, (inr later.1.1.0, later.1.1.1))))
      ]

  -- an element stands at one place
  pub one_place : ((x : X) → cmp x x ≡ Equal) → (xs : List X) (i j : ℕ) (x : X) → IsRising cmp xs → slice_get xs i ≡ Some x → slice_get xs j ≡ Some x → i ≡ j
  one_place tied [] i j x rising h k = absurd (let no : ⊥ = cc in no)
  one_place tied (y ∷ xs) zero zero x rising h k = refl
  one_place tied (y ∷ xs) zero (suc j) x rising h k =
      let e : y ≡ x = cc in let less = rising.0 x (get_in xs j x k) in let same = tied x in let less' : cmp x x ≡ Less = subst (λ w. cmp w x ≡ Less) e less in absurd (let no : ⊥ = cc in no)
  one_place tied (y ∷ xs) (suc i) zero x rising h k =
      let e : y ≡ x = cc in let less = rising.0 x (get_in xs i x h) in let same = tied x in let less' : cmp x x ≡ Less = subst (λ w. cmp w x ≡ Less) e less in absurd (let no : ⊥ = cc in no)
  one_place tied (y ∷ xs) (suc i) (suc j) x rising h k = ap suc (one_place tied xs i j x rising.1 h k)

  -- what stands before a place comes before what stands there
  pub before_place : (xs : List X) (i : ℕ) (d x : X) → IsRising cmp xs → i < length xs → In (take i xs) x → cmp x (get_or xs i d) ≡ Less
  before_place [] i d x rising below h = absurd (omega arith)
  before_place (y ∷ xs) zero d x rising below h = absurd h
  before_place (y ∷ xs) (suc i) d x rising below h = elim h [
    | inl e ↦ subst (λ w. cmp w (get_or xs i d) ≡ Less) e (rising.0 (get_or xs i d) (at_place xs i d (omega arith)))
    | inr j ↦ before_place xs i d x rising.1 (omega arith) j
  ]

  -- of two places the first one holds what comes before
  pub rising_at : (xs : List X) (i j : ℕ) (d : X) → IsRising cmp xs → i < j → j < length xs → cmp (get_or xs i d) (get_or xs j d) ≡ Less
  rising_at [] i j d rising order below = absurd (omega arith)
  rising_at (x ∷ xs) i zero d rising order below = absurd (omega arith)
  rising_at (x ∷ xs) zero (suc j) d rising order below = rising.0 (get_or xs j d) (at_place xs j d (omega arith))
  rising_at (x ∷ xs) (suc i) (suc j) d rising order below = rising_at xs i j d rising.1 (omega arith) (omega arith)
