-- What holds or doesn't, and how decisions are made from others.
use Rattle.std.proofs.Common.{◌≡◌, Bool, true, false, ◌⊎◌, ◌↔◌, inl, inr, List, [], ◌∷◌, refl, sym, subst}
use Rattle.words.specs.Members.{In}

abbrev pub Decided : Type 0 → Type 0
Decided P = P ⊎ (P → ⊥)

pub both : {P Q : Type 0} → Decided P → Decided Q → Decided (P × Q)
both (inl p) (inl q) = inl (p, q)
both (inl p) (inr n) = inr (λ h. n h.1)
both (inr n) q = inr (λ h. n h.0)

pub either : {P Q : Type 0} → Decided P → Decided Q → Decided (P ⊎ Q)
either (inl p) q = inl (inl p)
either (inr n) (inl q) = inl (inr q)
either (inr n) (inr m) = inr (λ h. elim h [ inl p ↦ n p | inr q ↦ m q ])

pub never : {P : Type 0} → Decided P → Decided (P → ⊥)
never (inl p) = inr (λ n. n p)
never (inr n) = inl n

pub decided_by : {P Q : Type 0} → (P → Q) → (Q → P) → Decided P → Decided Q
decided_by f g (inl p) = inl (f p)
decided_by f g (inr n) = inr (λ q. n (g q))

pub is_true : (b : Bool) → Decided (b ≡ true)
is_true true = inl refl
is_true false = inr (λ e. let no : ⊥ = cc in no)

-- some element of a list has a property
pub some_in : {X : Type 0} (P : X → Type 0) → ((x : X) → Decided (P x)) → (xs : List X) → Decided ((x : X) × (In xs x × P x))
some_in P test [] = inr (λ h. h.1.0)
some_in P test (y ∷ ys) = elim (test y) [
  | inl p ↦ inl (y, (inl refl, p))
  | inr n ↦ elim (some_in P test ys) [
    | inl h ↦ inl (h.0, (inr h.1.0, h.1.1))
    | inr m ↦ inr (λ h. elim h.1.0 [ inl e ↦ n (subst P (sym e) h.1.1) | inr j ↦ m (h.0, (j, h.1.1)) ])
  ]
]

-- something has a property, where all that has it stands in a list
pub some : {X : Type 0} (P : X → Type 0) → ((x : X) → Decided (P x)) → (xs : List X) → ((x : X) → P x → In xs x) → Decided ((x : X) × P x)
some P test xs all = decided_by (λ h. (h.0, h.1.1)) (λ h. (h.0, (all h.0 h.1, h.1))) (some_in P test xs)

-- the list of what has a property, where all that has it stands in a list
pub chosen : {X : Type 0} (P : X → Type 0) → ((x : X) → Decided (P x)) → (xs : List X) → (ys : List X) × ((y : X) → In ys y ↔ (In xs y × P y))
chosen P test [] = ([], λ y. ((λ h. absurd h), (λ h. h.0)))
chosen {X} P test (x ∷ xs) = go (test x) (chosen P test xs)
  where
    go : Decided (P x) → ((ys : List X) × ((y : X) → In ys y ↔ (In xs y × P y))) → (ys : List X) × ((y : X) → In ys y ↔ (In (x ∷ xs) y × P y))
    go (inl p) rest = (
      x ∷ rest.0,
      λ y. (
        (λ h. elim h [ inl e ↦ (inl e, subst P e p) | inr j ↦ (let r = (rest.1 y).0 j in (inr r.0, r.1)) ]),
        (λ h. elim h.0 [ inl e ↦ inl e | inr j ↦ inr ((rest.1 y).1 (j, h.1)) ]),
      ),
    )
    go (inr n) rest = (
      rest.0,
      λ y. (
        (λ h. let r = (rest.1 y).0 h in (inr r.0, r.1)),
        (λ h. elim h.0 [ inl e ↦ absurd (n (subst P (sym e) h.1)) | inr j ↦ (rest.1 y).1 (j, h.1) ]),
      ),
    )
