-- Rows of numbers as one of them gets an item, and loses it.
use Rattle.std.proofs.Common.{◌≡◌, ◌≢◌, ℕ, ◌-◌, ◌<◌, ◌⊎◌, List, [], ◌∷◌, ◌++◌, length, get_or, set, take, refl, sym, ap, subst, ◌∙◌, inl, inr, arith}
use Rattle.std.proofs.lemmas.Bool.{cases_eq, cases_lt}
use Rattle.std.proofs.lemmas.List.{get_or-set_same, get_or-set_other, get_or_past, length_push, set-set, set-get_or, take_at}
use Rattle.words.specs.Members.{In}
use Rattle.words.specs.Twice.{HasNoneTwice}
use Rattle.links.proofs.Members.{in_either, in_left, in_right}
use Rattle.open_rows.specs.Rows.{popped, pushed}

-- the row that got the item
pub pushed_row : (rows : List (List ℕ)) (k v : ℕ) → k < length rows → get_or (pushed rows k v) k [] ≡ get_or rows k [] ++ v ∷ []
pushed_row rows k v below = get_or-set_same rows k (get_or rows k [] ++ v ∷ []) [] below

pub pushed_other : (rows : List (List ℕ)) (k v j : ℕ) → j ≢ k → get_or (pushed rows k v) j [] ≡ get_or rows j []
pushed_other rows k v j other = get_or-set_other rows k j (get_or rows k [] ++ v ∷ []) [] other

pub pushed_from : (rows : List (List ℕ)) (k v : ℕ) → k < length rows → (j y : ℕ) → In (get_or (pushed rows k v) j []) y → In (get_or rows j []) y ⊎ ((k ≡ j) × (v ≡ y))
pushed_from rows k v below j y i = elim (cases_eq j k) [
  | inl e ↦ elim (in_either (get_or rows k []) (v ∷ []) y (subst (λ (row : List ℕ). In row y) (ap (λ z. get_or (pushed rows k v) z []) e ∙ pushed_row rows k v below) i)) [
    | inl old ↦ inl (subst (λ z. In (get_or rows z []) y) (sym e) old)
    | inr new ↦ elim new [ inl q ↦ inr (sym e, q) | inr none ↦ absurd none ]
  ]
  | inr other ↦ inl (subst (λ (row : List ℕ). In row y) (pushed_other rows k v j other) i)
]

pub pushed_keeps : (rows : List (List ℕ)) (k v : ℕ) → k < length rows → (j y : ℕ) → In (get_or rows j []) y → In (get_or (pushed rows k v) j []) y
pushed_keeps rows k v below j y i = elim (cases_eq j k) [
  | inl e ↦ subst (λ (row : List ℕ). In row y) (sym (ap (λ z. get_or (pushed rows k v) z []) e ∙ pushed_row rows k v below))
      (in_left (get_or rows k []) (v ∷ []) y (subst (λ z. In (get_or rows z []) y) e i))
  | inr other ↦ subst (λ (row : List ℕ). In row y) (sym (pushed_other rows k v j other)) i
]

pub pushed_has : (rows : List (List ℕ)) (k v : ℕ) → k < length rows → (j y : ℕ) → k ≡ j → v ≡ y → In (get_or (pushed rows k v) j []) y
pushed_has rows k v below j y at is =
    subst (λ z. In (get_or (pushed rows k v) z []) y) at
    (subst (λ (row : List ℕ). In row y) (sym (pushed_row rows k v below)) (in_right (get_or rows k []) (v ∷ []) y (inl is)))

-- an item that was pushed is taken off
pub popped_pushed : (rows : List (List ℕ)) (k v : ℕ) → k < length rows → popped (pushed rows k v) k ≡ rows
popped_pushed rows k v below =
    let row : List ℕ = get_or rows k [] in
    let long = length_push row v in
    let front : take (length (row ++ v ∷ []) - 1) (row ++ v ∷ []) ≡ row = take_at row (v ∷ []) (length (row ++ v ∷ []) - 1) (omega arith) in
    ap (λ (r : List ℕ). set (pushed rows k v) k (take (length r - 1) r)) (pushed_row rows k v below)
    ∙ (ap (λ (r : List ℕ). set (pushed rows k v) k r) front ∙ (set-set rows k (row ++ v ∷ []) row ∙ set-get_or rows k []))

-- a row to which an item stands is there
pub row_below : (rows : List (List ℕ)) (k y : ℕ) → In (get_or rows k []) y → k < length rows
row_below rows k y i = elim (cases_lt k (length rows)) [
  | inl l ↦ l
  | inr past ↦ absurd (subst (λ (row : List ℕ). In row y) (get_or_past rows k [] past) i)
]

pub none_in : (xs : List ℕ) → ((y : ℕ) → In xs y → ⊥) → xs ≡ []
none_in [] none = refl
none_in (x ∷ xs) none = absurd (none x (inl refl))

pub filled_by : (xs : List ℕ) (y : ℕ) → In xs y → 0 < length xs
filled_by [] y i = absurd i
filled_by (x ∷ xs) y i = omega arith

pub once_push : (xs : List ℕ) (y : ℕ) → HasNoneTwice xs → (In xs y → ⊥) → HasNoneTwice (xs ++ y ∷ [])
once_push [] y once new = ((λ i. i), tt)
once_push (x ∷ xs) y once new = (
  (λ i. elim (in_either xs (y ∷ []) x i) [ inl old ↦ once.0 old | inr j ↦ elim j [ inl e ↦ new (inl (sym e)) | inr none ↦ none ] ]),
  once_push xs y once.1 (λ i. new (inr i)),
)
