-- Strictly rising lists of numbers: one for each finite set.
use Rattle.std.proofs.Common.{◌≡◌, ℕ, ◌+◌, ◌<◌, ◌↔◌, ◌⊎◌, inl, inr, List, [], ◌∷◌, zero, suc, get_or, refl, sym, ap₂, subst, ◌∙◌, arith}
use Rattle.std.specs.List.Sorted.{IsStrictlyIncreasing}
use Rattle.std.proofs.lemmas.Bool.{cases_lt, cases_eq}
use Rattle.words.specs.Members.{In}

-- each number is below all those behind it
abbrev pub IsRisingList : List ℕ → Type 0
IsRisingList [] = Unit {0}
IsRisingList (x ∷ xs) = ((y : ℕ) → In xs y → x < y) × IsRisingList xs

tail_rises : (x : ℕ) (xs : List ℕ) → IsStrictlyIncreasing (x ∷ xs) → IsStrictlyIncreasing xs
tail_rises x xs h k l =
    let r = h (suc k) (let e : suc k + 1 ≡ suc (k + 1) = omega arith in omega arith) in
    let e : suc k + 1 ≡ suc (k + 1) = omega arith in
    subst (λ n. get_or xs k 0 < get_or (x ∷ xs) n 0) e r

pub rises : (xs : List ℕ) → IsStrictlyIncreasing xs → IsRisingList xs
rises [] h = tt
rises (x ∷ xs) h = (go xs h (rises xs (tail_rises x xs h)), rises xs (tail_rises x xs h))
  where
    go : (ys : List ℕ) → IsStrictlyIncreasing (x ∷ ys) → IsRisingList ys → (y : ℕ) → In ys y → x < y
    go [] h r y i = absurd i
    go (z ∷ zs) h r y i =
        let first : x < z = h 0 (omega arith) in
        elim i [ inl e ↦ omega arith | inr j ↦ (let l = r.0 y j in omega arith) ]

pub increases : (xs : List ℕ) → IsRisingList xs → IsStrictlyIncreasing xs
increases [] r k l = absurd (omega arith)
increases (x ∷ []) r k l = absurd (omega arith)
increases (x ∷ y ∷ ys) r zero l = r.0 y (inl refl)
increases (x ∷ y ∷ ys) r (suc k) l =
    let e : suc k + 1 ≡ suc (k + 1) = omega arith in
    let i = increases (y ∷ ys) r.1 k (omega arith) in
    subst (λ n. get_or (y ∷ ys) k 0 < get_or (x ∷ y ∷ ys) n 0) (sym e) i

-- a set has one rising list
pub determined : (xs ys : List ℕ) → IsRisingList xs → IsRisingList ys → ((x : ℕ) → In xs x → In ys x) → ((x : ℕ) → In ys x → In xs x) → xs ≡ ys
determined [] [] p q f g = refl
determined [] (y ∷ ys) p q f g = absurd (g y (inl refl))
determined (x ∷ xs) [] p q f g = absurd (f x (inl refl))
determined (x ∷ xs) (y ∷ ys) p q f g = ap₂ (λ a b. a ∷ b) heads (determined xs ys p.1 q.1 onward back)
  where
    heads : x ≡ y
    heads = elim (f x (inl refl)) [
      | inl e ↦ sym e
      | inr i ↦ elim (g y (inl refl)) [ inl e ↦ e | inr j ↦ (let a = p.0 y j in let b = q.0 x i in absurd (omega arith)) ]
    ]

    onward : (z : ℕ) → In xs z → In ys z
    onward z i = elim (f z (inr i)) [ inl e ↦ (let a = p.0 z i in let h = heads in absurd (omega arith)) | inr j ↦ j ]

    back : (z : ℕ) → In ys z → In xs z
    back z i = elim (g z (inr i)) [ inl e ↦ (let a = q.0 z i in let h = heads in absurd (omega arith)) | inr j ↦ j ]

pub one_list : (xs ys : List ℕ) → IsStrictlyIncreasing xs → IsStrictlyIncreasing ys → ((x : ℕ) → In xs x ↔ In ys x) → xs ≡ ys
one_list xs ys p q same = determined xs ys (rises xs p) (rises ys q) (λ x i. (same x).0 i) (λ x i. (same x).1 i)

-- a rising list with one more number
pub record Raised (x : ℕ) (xs : List ℕ) : Type 0 where
  pub list : List ℕ
  pub rising : IsRisingList list
  pub members : (y : ℕ) → In list y ↔ ((x ≡ y) ⊎ In xs y)

raised : (x : ℕ) (xs : List ℕ) → IsRisingList xs → Raised x xs
raised x [] r = record { list = x ∷ []; rising = ((λ y i. absurd i), tt); members = λ y. ((λ i. i), (λ i. i)) }
raised x (z ∷ zs) r = elim (cases_eq x z) as (λ _. Raised x (z ∷ zs)) [
  | inl e ↦ record { list = z ∷ zs; rising = r; members = λ y. ((λ i. inr i), (λ i. elim i [ inl d ↦ inl (sym e ∙ d) | inr j ↦ j ])) }
  | inr d ↦ elim (cases_lt x z) as (λ _. Raised x (z ∷ zs)) [
    | inl l ↦ record {
      list = x ∷ z ∷ zs;
      rising = ((λ y i. elim i [ inl e ↦ omega arith | inr j ↦ (let k = r.0 y j in omega arith) ]), r);
      members = λ y. ((λ i. i), (λ i. i));
    }
    | inr l ↦ (let rest = raised x zs r.1 in record {
      list = z ∷ rest.list;
      rising = ((λ y i. elim ((rest.members y).0 i) [ inl e ↦ omega arith | inr j ↦ r.0 y j ]), rest.rising);
      members = λ y. (
        (λ i. elim i [ inl e ↦ inr (inl e) | inr j ↦ elim ((rest.members y).0 j) [ inl e ↦ inl e | inr k ↦ inr (inr k) ] ]),
        (λ i. elim i [ inl e ↦ inr ((rest.members y).1 (inl e)) | inr j ↦ elim j [ inl e ↦ inl e | inr k ↦ inr ((rest.members y).1 (inr k)) ] ]),
      );
    })
  ]
]

-- the rising list of a set
pub record Ranked (xs : List ℕ) : Type 0 where
  pub list : List ℕ
  pub rising : IsRisingList list
  pub members : (y : ℕ) → In list y ↔ In xs y

pub ranked : (xs : List ℕ) → Ranked xs
ranked [] = record { list = []; rising = tt; members = λ y. ((λ i. i), (λ i. i)) }
ranked (x ∷ xs) =
    let rest = ranked xs in
    let one = raised x rest.list rest.rising in
    record {
      list = one.list;
      rising = one.rising;
      members = λ y. (
        (λ i. elim ((one.members y).0 i) [ inl e ↦ inl e | inr j ↦ inr ((rest.members y).0 j) ]),
        (λ i. (one.members y).1 (elim i [ inl e ↦ inl e | inr j ↦ inr ((rest.members y).1 j) ])),
      );
    }
