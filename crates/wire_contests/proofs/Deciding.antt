-- What contests a wire, by its counting drivers in order.
use Rattle.std.proofs.Common.{◌≡◌, ◌≢◌, ℕ, ◌<◌, ◌≤◌, ◌⊎◌, ◌↔◌, Bool, true, false, cond, List, [], ◌∷◌, Some, None, refl, sym, subst, ◌∙◌, inl, inr, arith}
use Rattle.std.specs.Prelude.{nat_lt, ◌==◌, ◌||◌}
use Rattle.std.specs.declared.cmp.Ordering.TheVariants.{Less, Equal, Greater}
use Rattle.std.specs.Ordering.{nat_cmp}
use Rattle.std.proofs.lemmas.Bool.{false≢true, eqb-true, eqb-false, eq-eqb, ne_eqb, lt-ltb, le-ltb, ltb-true, ltb-false, cases_lt, cases_eq}
use Rattle.words.specs.Members.{In}
use Rattle.links.specs.Links.{Routing, Counting}
use Rattle.design_checks.specs.Checks.{IsLeast}
use Rattle.design_checks.specs.RoutingChecks.{Asserts, AssertsBeside, AreTwoLeast, IsContested, alone, two}
use Rattle.wire_contests.specs.Contests.{Decides, contest_beside, contest_of, first_of, second_of}
use Rattle.wire_contests.proofs.Rows.{AreCounting}

-- one number isn't greater than another
pub not_greater : (x y : ℕ) → x ≤ y → nat_cmp x y ≢ Greater
not_greater x y le = elim (cases_lt x y) [
  | inl l ↦ (λ g. let e : nat_cmp x y ≡ Less = rw (lt-ltb x y l) refl in let no : ⊥ = cc in no)
  | inr k ↦ (λ g. let e : nat_cmp x y ≡ Equal = rw (le-ltb x y k, eq-eqb x y (let q : x ≡ y = omega arith in q)) refl in let no : ⊥ = cc in no)
]

pub less_from : (x y : ℕ) → nat_cmp x y ≡ Less → x < y
less_from x y h = elim (cases_lt x y) [
  | inl l ↦ l
  | inr k ↦ absurd (elim (cases_eq x y) [
    | inl e ↦ (let q : nat_cmp x y ≡ Equal = rw (le-ltb x y k, eq-eqb x y e) refl in let no : ⊥ = cc in no)
    | inr d ↦ (let q : nat_cmp x y ≡ Greater = rw (le-ltb x y k, ne_eqb x y d) refl in let no : ⊥ = cc in no)
  ])
]

-- the least of what has a property
least_is : (Has : ℕ → Type 0) (x : ℕ) → Has x → ((y : ℕ) → Has y → x ≤ y) → IsLeast nat_cmp Has x
least_is Has x has least = record { has = has; least = λ y h. not_greater x y (least y h) }

module _ (r : Routing) (w : ℕ) where
  -- what drives the wire is at least the first counting driver, or the wire itself
  module _ (x : ℕ) (rest : List ℕ) (are : AreCounting r w (x ∷ rest)) where
    pub first_counts : Counting r x w
    first_counts = are.counts x (inl refl)

    pub first_least : (y : ℕ) → Counting r y w → x ≤ y
    first_least y c = elim (are.all y c) [ inl e ↦ omega arith | inr i ↦ (let l = less_from x y (are.rising.0 y i) in omega arith) ]

  -- two counting drivers
  pub decided_two : (x y : ℕ) (rest : List ℕ) → AreCounting r w (x ∷ y ∷ rest) → (In r.outputs w → ⊥) → Decides r w (Some (record { wire = w; first = x; second = y }))
  decided_two x y rest are inner =
      let l = less_from x y (are.rising.0 y (inl refl)) in
      let cx = first_counts x (y ∷ rest) are in
      let cy = are.counts y (inr (inl refl)) in (
        refl,
        (
          inl (x, (y, (cx, (cy, (λ e. let no : ⊥ = omega arith in no))))),
          two
              (least_is (Asserts r w) x (inl cx) (λ z a. elim a [ inl c ↦ first_least x (y ∷ rest) are z c | inr o ↦ absurd (inner o.0) ]))
              (least_is (AssertsBeside r w x) y (inl cy, (λ e. let no : ⊥ = omega arith in no))
              (λ z a. elim a.0 [
                | inl c ↦ elim (are.all z c) [
                  | inl e ↦ absurd (a.1 (sym e))
                  | inr i ↦ elim i [ inl e ↦ omega arith | inr j ↦ (let m = less_from y z (are.rising.1.0 z j) in omega arith) ]
                ]
                | inr o ↦ absurd (inner o.0)
              ])),
        ),
      )

  -- one counting driver at most
  pub decided_one : (xs : List ℕ) → AreCounting r w xs → ((x y : ℕ) → In xs x → In xs y → x ≡ y) → (In r.outputs w → ⊥) → Decides r w None
  decided_one xs are one inner = λ h. elim h [
    | inl pair ↦ pair.1.1.1.1 (one pair.0 pair.1.0 (are.all pair.0 pair.1.1.0) (are.all pair.1.0 pair.1.1.1.0))
    | inr o ↦ inner o.0
  ]

  -- no counting driver
  pub decided_none : AreCounting r w [] → Decides r w None
  decided_none are = λ h. elim h [ inl pair ↦ are.all pair.0 pair.1.1.0 | inr o ↦ are.all o.1.0 o.1.1 ]

  -- two wires drive it, and no other one stands before them
  two_least : (a b : ℕ) → Asserts r w a → ((z : ℕ) → Asserts r w z → a ≤ z) → Asserts r w b → (b ≢ a) → ((z : ℕ) → Asserts r w z → (z ≢ a) → b ≤ z) → AreTwoLeast r w a b
  two_least a b has least other differs next =
      two (least_is (Asserts r w) a has least) (least_is (AssertsBeside r w a) b (other, differs) (λ z h. next z h.0 h.1))

  module _ (out : In r.outputs w) where
    itself : Asserts r w w
    itself = inr (out, refl)

    -- what drives a cell output with one counting driver
    with_one : (x : ℕ) → AreCounting r w (x ∷ []) → (z : ℕ) → Asserts r w z → (z ≡ x) ⊎ (z ≡ w)
    with_one x are z a = elim a [ inl c ↦ elim (are.all z c) [ inl e ↦ inl (sym e) | inr i ↦ absurd i ] | inr o ↦ inr o.1 ]

    -- and with more
    with_more : (x y : ℕ) (rest : List ℕ) → AreCounting r w (x ∷ y ∷ rest) → (z : ℕ) → Asserts r w z → (z ≡ x) ⊎ ((y ≤ z) ⊎ (z ≡ w))
    with_more x y rest are z a = elim a [
      | inl c ↦ elim (are.all z c) [
        | inl e ↦ inl (sym e)
        | inr i ↦ elim i [ inl e ↦ inr (inl (omega arith)) | inr j ↦ (let m = less_from y z (are.rising.1.0 z j) in inr (inl (omega arith))) ]
      ]
      | inr o ↦ inr (inr o.1)
    ]

    -- the wire comes first
    wire_first : (x : ℕ) (rest : List ℕ) → AreCounting r w (x ∷ rest) → w < x → AreTwoLeast r w w x
    wire_first x rest are l =
        two_least w x itself (λ z a. elim a [ inl c ↦ (let m = first_least x rest are z c in omega arith) | inr o ↦ (let e = o.1 in omega arith) ])
        (inl (first_counts x rest are)) (λ e. let no : ⊥ = omega arith in no) (λ z a d. elim a [ inl c ↦ first_least x rest are z c | inr o ↦ absurd (d o.1) ])

    one_beside : (x : ℕ) → AreCounting r w (x ∷ []) → x ≤ w → AreTwoLeast r w x w
    one_beside x are le = elim (cases_eq x w) [
      | inl e ↦ subst (λ b. AreTwoLeast r w x b) e
          (alone (least_is (Asserts r w) x (inl (first_counts x [] are)) (λ z a. elim (with_one x are z a) [ inl s ↦ omega arith | inr s ↦ omega arith ]))
          (λ z b. elim (with_one x are z b.0) [ inl s ↦ b.1 s | inr s ↦ b.1 (s ∙ sym e) ]))
      | inr d ↦ two_least x w (inl (first_counts x [] are)) (λ z a. elim (with_one x are z a) [ inl s ↦ omega arith | inr s ↦ omega arith ])
          itself (λ e. d (sym e)) (λ z a n. elim (with_one x are z a) [ inl s ↦ absurd (n s) | inr s ↦ omega arith ])
    ]

    -- the second counting driver comes before the wire, or the first one is the wire
    second_next : (x y : ℕ) (rest : List ℕ) → AreCounting r w (x ∷ y ∷ rest) → x ≤ w → (x ≡ w) ⊎ (y < w) → AreTwoLeast r w x y
    second_next x y rest are le next =
        let l = less_from x y (are.rising.0 y (inl refl)) in
        two_least x y (inl (first_counts x (y ∷ rest) are)) (λ z a. elim (with_more x y rest are z a) [ inl s ↦ omega arith | inr t ↦ elim t [ inl s ↦ omega arith | inr s ↦ omega arith ] ])
        (inl (are.counts y (inr (inl refl)))) (λ e. let no : ⊥ = omega arith in no)
        (λ z a n. elim (with_more x y rest are z a) [
          | inl s ↦ absurd (n s)
          | inr t ↦ elim t [ inl s ↦ s | inr s ↦ elim next [ inl e ↦ absurd (n (s ∙ sym e)) | inr m ↦ omega arith ] ]
        ])

    -- the wire comes before the second counting driver
    wire_next : (x y : ℕ) (rest : List ℕ) → AreCounting r w (x ∷ y ∷ rest) → x ≤ w → (x ≢ w) → w ≤ y → AreTwoLeast r w x w
    wire_next x y rest are le d m =
        two_least x w (inl (first_counts x (y ∷ rest) are)) (λ z a. elim (with_more x y rest are z a) [ inl s ↦ omega arith | inr t ↦ elim t [ inl s ↦ omega arith | inr s ↦ omega arith ] ])
        itself (λ e. d (sym e))
        (λ z a n. elim (with_more x y rest are z a) [ inl s ↦ absurd (n s) | inr t ↦ elim t [ inl s ↦ omega arith | inr s ↦ omega arith ] ])

    contested_output : (x : ℕ) (rest : List ℕ) → AreCounting r w (x ∷ rest) → IsContested r w
    contested_output x rest are = inr (out, (x, first_counts x rest are))

    -- a cell output and its counting drivers
    pub decided_output : (x : ℕ) (rest : List ℕ) → AreCounting r w (x ∷ rest) → Decides r w (Some (contest_beside w x (first_of rest)))
    decided_output x [] are = go (nat_lt w x) refl
      where
        go : (b : Bool) → nat_lt w x ≡ b → Decides r w (Some (cond b (record { wire = w; first = w; second = x }) (record { wire = w; first = x; second = w })))
        go true e = (refl, (contested_output x [] are, wire_first x [] are (ltb-true w x e)))
        go false e = (refl, (contested_output x [] are, one_beside x are (ltb-false w x e)))
    decided_output x (y ∷ rest) are = go (nat_lt w x) (x == w) (nat_lt y w) refl refl refl
      where
        go : (a b c : Bool) → nat_lt w x ≡ a → (x == w) ≡ b → nat_lt y w ≡ c
            → Decides r w (Some (cond a (record { wire = w; first = w; second = x }) (cond (b || c) (record { wire = w; first = x; second = y }) (record { wire = w; first = x; second = w }))))
        go true b c e f g = (refl, (contested_output x (y ∷ rest) are, wire_first x (y ∷ rest) are (ltb-true w x e)))
        go false true c e f g = (refl, (contested_output x (y ∷ rest) are, second_next x y rest are (ltb-false w x e) (inl (eqb-true x w f))))
        go false false true e f g = (refl, (contested_output x (y ∷ rest) are, second_next x y rest are (ltb-false w x e) (inr (ltb-true y w g))))
        go false false false e f g = (refl, (contested_output x (y ∷ rest) are, wire_next x y rest are (ltb-false w x e) (eqb-false x w f) (ltb-false y w g)))

  -- the answer for a wire decides, by its counting drivers
  pub decided : (xs : List ℕ) (output : Bool) → AreCounting r w xs → ((output ≡ true) ↔ In r.outputs w) → Decides r w (contest_of w output (first_of xs) (second_of xs))
  decided [] output are is = decided_none are
  decided (x ∷ rest) true are is = decided_output (is.0 refl) x rest are
  decided (x ∷ []) false are is =
      decided_one (x ∷ []) are (λ a b i j. elim i [ inl s ↦ elim j [ inl t ↦ sym s ∙ t | inr k ↦ absurd k ] | inr k ↦ absurd k ]) (λ o. false≢true (is.1 o))
  decided (x ∷ y ∷ rest) false are is = decided_two x y rest are (λ o. false≢true (is.1 o))
