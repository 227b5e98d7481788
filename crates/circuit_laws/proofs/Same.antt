-- Names, parts and triples can be told apart.
use Rattle.std.proofs.Common.{◌≡◌, ◌≢◌, ℕ, List, [], ◌∷◌, ◌⊎◌, inl, inr, refl, ap, ◌∙◌}
use Rattle.records.specs.Side.{Triple}
use Rattle.circuit.specs.Parts.{PartKind, Table, Register, Pad, PartRef}
use Rattle.circuit.specs.Triples.{PartTriple}
use Rattle.links.proofs.Members.{same_number}

abbrev pub Same : {X : Type 0} → X → X → Type 0
Same x y = (x ≡ y) ⊎ (x ≢ y)

pub same_name : (xs ys : List ℕ) → Same xs ys
same_name [] [] = inl refl
same_name [] (y ∷ ys) = inr (λ h. (let no : ⊥ = cc in no))
same_name (x ∷ xs) [] = inr (λ h. (let no : ⊥ = cc in no))
same_name (x ∷ xs) (y ∷ ys) = elim (same_number x y) [
  | inr h ↦ inr (λ e. h (let g : x ≡ y = cc in g))
  | inl e ↦ elim (same_name xs ys) [
    | inr h ↦ inr (λ g. h (let k : xs ≡ ys = cc in k))
    | inl g ↦ inl (ap (λ z. z ∷ xs) e ∙ ap (λ zs. y ∷ zs) g)
  ]
]

pub same_part : (x y : PartKind) → Same x y
same_part (Table m) (Table n) = elim (same_number m n) [ inl e ↦ inl (ap Table e) | inr h ↦ inr (λ g. h (let k : m ≡ n = cc in k)) ]
same_part (Register m) (Register n) = elim (same_number m n) [ inl e ↦ inl (ap Register e) | inr h ↦ inr (λ g. h (let k : m ≡ n = cc in k)) ]
same_part Pad Pad = inl refl
same_part (Table m) (Register n) = inr (λ h. (let no : ⊥ = cc in no))
same_part (Table m) Pad = inr (λ h. (let no : ⊥ = cc in no))
same_part (Register m) (Table n) = inr (λ h. (let no : ⊥ = cc in no))
same_part (Register m) Pad = inr (λ h. (let no : ⊥ = cc in no))
same_part Pad (Table n) = inr (λ h. (let no : ⊥ = cc in no))
same_part Pad (Register n) = inr (λ h. (let no : ⊥ = cc in no))

pub triple_path : (t u : Triple) → t.first ≡ u.first → t.second ≡ u.second → t.third ≡ u.third → t ≡ u
triple_path t u a b c = λ i. record { first = a i; second = b i; third = c i }

pub same_triple : (t u : Triple) → Same t u
same_triple t u = elim (same_name t.first u.first) [
  | inr h ↦ inr (λ e. h (ap (λ z. z.first) e))
  | inl a ↦ elim (same_name t.second u.second) [
    | inr h ↦ inr (λ e. h (ap (λ z. z.second) e))
    | inl b ↦ elim (same_name t.third u.third) [
      | inr h ↦ inr (λ e. h (ap (λ z. z.third) e))
      | inl c ↦ inl (triple_path t u a b c)
    ]
  ]
]

pub same_group : (x y : PartTriple) → Same x y
same_group x y = elim (same_triple x.cells y.cells) [
  | inr h ↦ inr (λ e. h (ap (λ z. z.cells) e))
  | inl a ↦ elim (same_part x.part y.part) [
    | inr h ↦ inr (λ e. h (ap (λ z. z.part) e))
    | inl b ↦ inl (λ i. record { cells = a i; part = b i })
  ]
]

pub part_path : (x y : PartRef) → x.cell ≡ y.cell → x.part ≡ y.part → x ≡ y
part_path x y a b = λ i. record { cell = a i; part = b i }
