-- Rows with room for more. (Our own.)
use Rattle.std.specs.Prelude.{◌≡◌, ℕ, ◌+◌, ◌-◌, ◌<◌, List, [], ◌∷◌, ◌++◌, length, get_or, slice_set, take, refl}
use Rattle.std.specs.Coded.{Coded, code_by, coded×, coded_list, coded_ℕ}

-- rows, and how many items each of them may have
pub record Rows (V : Type 0) : Type 0 where
  pub rows : List (List V)
  pub room : List ℕ

-- rows are stored as the pair of their fields
abbrev pub rows_code : {V : Type 0} → Coded V → Coded (Rows V)
rows_code {V} code =
    code_by (List (List V) × List ℕ) (coded× (coded_list (coded_list code)) (coded_list coded_ℕ)) (λ r. (r.rows, r.room)) (λ p. record { rows = p.0; room = p.1 }) (λ _. refl)

-- a row may have one more item
abbrev pub HasRoom : {V : Type 0} → Rows V → ℕ → Type 0
HasRoom r k = length (get_or r.rows k []) < get_or r.room k 0

-- the rows once an item stands at the end of one
abbrev pub pushed : {V : Type 0} → List (List V) → ℕ → V → List (List V)
pushed rows k v = slice_set rows k (get_or rows k [] ++ v ∷ [])

-- the rows once the last item is off one
abbrev pub popped : {V : Type 0} → List (List V) → ℕ → List (List V)
popped rows k = slice_set rows k (take (length (get_or rows k []) - 1) (get_or rows k []))
