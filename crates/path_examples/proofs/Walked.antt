-- The paths of the square, one by one.
use Rattle.std.proofs.Common.{◌≡◌, ℕ, ◌⊎◌, ◌↔◌, inl, inr, Bool, true, false, List, [], ◌∷◌, refl, sym, ap, subst, ◌∙◌, arith}
use Rattle.words.specs.Members.{In}
use Rattle.links.specs.Links.{Reaches, here, onto}
use Rattle.paths.specs.Paths.{LeadsOn, IsPath}
use Rattle.paths.specs.Cuts.{IsCut, IsInRim}
use Rattle.paths.specs.Wiring.{IsArcOf, roads_of}
use Rattle.path_examples.specs.Square.{square, rules, tree}

module _ (b : ℕ) (into_d : Bool) where
  -- without links each wire is below itself alone
  alone : {w x : ℕ} → Reaches (λ u v. In ((rules b into_d).next u) v) w x → w ≡ x
  alone here = refl
  alone (onto q s) = absurd s

  -- the arcs that leave a wire
  leaves : (w a : ℕ) → w ≡ square.source a → IsArcOf square a → In (square.outs w) a
  leaves w a e h = subst (λ v. In (square.outs v) a) (sym e) h.listed

  -- what leads on from d
  from_d : (path : List ℕ) → LeadsOn (roads_of square (rules b into_d)) 3 path 3 → path ≡ []
  from_d [] p = refl
  from_d (a ∷ rest) p = absurd (leaves 3 a (alone p.0) p.1.0)

  from_b : (path : List ℕ) → LeadsOn (roads_of square (rules b into_d)) 1 path 3 → path ≡ 1 ∷ []
  from_b [] p = absurd (let e = alone p in let no : ⊥ = omega arith in no)
  from_b (a ∷ rest) p = elim (leaves 1 a (alone p.0) p.1.0) [
    | inl e ↦ (let r = from_d rest (subst (λ x. LeadsOn (roads_of square (rules b into_d)) (square.sink x) rest 3) (sym e) p.2) in λ i. sym e i ∷ r i)
    | inr n ↦ absurd n
  ]

  from_c : (path : List ℕ) → LeadsOn (roads_of square (rules b into_d)) 2 path 3 → path ≡ 3 ∷ []
  from_c [] p = absurd (let e = alone p in let no : ⊥ = omega arith in no)
  from_c (a ∷ rest) p = elim (leaves 2 a (alone p.0) p.1.0) [
    | inl e ↦ (let r = from_d rest (subst (λ x. LeadsOn (roads_of square (rules b into_d)) (square.sink x) rest 3) (sym e) p.2) in λ i. sym e i ∷ r i)
    | inr n ↦ absurd n
  ]

  -- there are just two paths from a to d
  pub two_paths : (path : List ℕ) → IsPath (roads_of square (rules b into_d)) (In tree) path 3 → (path ≡ 0 ∷ 1 ∷ []) ⊎ (path ≡ 2 ∷ 3 ∷ [])
  two_paths [] p = elim p [ inl e ↦ absurd (let no : ⊥ = omega arith in no) | inr n ↦ absurd n ]
  two_paths (a ∷ rest) p = elim p.0 [
    | inr n ↦ absurd n
    | inl e ↦ elim (leaves 0 a e p.1.0) [
      | inl d ↦ (let r = from_b rest (subst (λ x. LeadsOn (roads_of square (rules b into_d)) (square.sink x) rest 3) (sym d) p.2) in inl (λ i. sym d i ∷ r i))
      | inr k ↦ elim k [
        | inl d ↦ (let r = from_c rest (subst (λ x. LeadsOn (roads_of square (rules b into_d)) (square.sink x) rest 3) (sym d) p.2) in inr (λ i. sym d i ∷ r i))
        | inr n ↦ absurd n
      ]
    ]
  ]

-- where no arc into d may be taken, the set of a, b and c is a cut
abbrev within : List ℕ
within = 0 ∷ 1 ∷ 2 ∷ []

-- the arcs from a, b and c, one by one
arc_cases : (a : ℕ) → IsArcOf square a → In within (square.source a) → (0 ≡ a) ⊎ ((1 ≡ a) ⊎ ((2 ≡ a) ⊎ (3 ≡ a)))
arc_cases a h i = elim i [
  | inl e ↦ elim (at 0 e) [ inl d ↦ inl d | inr k ↦ elim k [ inl d ↦ inr (inr (inl d)) | inr n ↦ absurd n ] ]
  | inr j ↦ elim j [
    | inl e ↦ elim (at 1 e) [ inl d ↦ inr (inl d) | inr n ↦ absurd n ]
    | inr k ↦ elim k [ inl e ↦ elim (at 2 e) [ inl d ↦ inr (inr (inr d)) | inr n ↦ absurd n ] | inr n ↦ absurd n ]
  ]
]
  where
    at : (w : ℕ) → w ≡ square.source a → In (square.outs w) a
    at w e = subst (λ v. In (square.outs v) a) (sym e) h.listed

not_d : In within 3 → ⊥
not_d i = elim i [ inl e ↦ (let no : ⊥ = omega arith in no) | inr j ↦ elim j [ inl e ↦ (let no : ⊥ = omega arith in no) | inr k ↦ elim k [ inl e ↦ (let no : ⊥ = omega arith in no) | inr n ↦ n ] ] ]

taken : (a : ℕ) → (IsArcOf square a × ((rules 1 false).usable a ≡ true)) → In within (square.source a) → In within (square.sink a)
taken a m i = elim (arc_cases a m.0 i) [
  | inl e ↦ subst (λ x. In within (square.sink x)) e (inr (inl refl))
  | inr j ↦ elim j [
    | inl e ↦ absurd (let u : false ≡ true = subst (λ x. (rules 1 false).usable x ≡ true) (sym e) m.1 in let no : ⊥ = cc in no)
    | inr k ↦ elim k [
      | inl e ↦ subst (λ x. In within (square.sink x)) e (inr (inr (inl refl)))
      | inr e ↦ absurd (let u : false ≡ true = subst (λ x. (rules 1 false).usable x ≡ true) (sym e) m.1 in let no : ⊥ = cc in no)
    ]
  ]
]

pub closed : IsCut (roads_of square (rules 1 false)) (In tree) within 3
closed = record {
  tree = λ w i. elim i [ inl e ↦ inl e | inr n ↦ absurd n ];
  pin_out = not_d;
  links = λ w x i l. absurd l;
  arcs = taken;
}

-- its rim is d alone
pub rim : (w : ℕ) → In (3 ∷ []) w ↔ IsInRim (roads_of square (rules 1 false)) within w
rim w = (
  (λ i. elim i [
    | inl e ↦ record { outside = λ j. not_d (subst (In within) (sym e) j); arc = 1; is_arc = record { below = omega arith; listed = inl refl }; from = inr (inl refl); to = e }
    | inr n ↦ absurd n
  ]),
  (λ h. elim (arc_cases h.arc h.is_arc h.from) [
    | inl e ↦ absurd (h.outside (subst (In within) (ap square.sink e ∙ h.to) (inr (inl refl))))
    | inr j ↦ elim j [
      | inl e ↦ inl (ap square.sink e ∙ h.to)
      | inr k ↦ elim k [
        | inl e ↦ absurd (h.outside (subst (In within) (ap square.sink e ∙ h.to) (inr (inr (inl refl)))))
        | inr e ↦ inl (ap square.sink e ∙ h.to)
      ]
    ]
  ]),
)
