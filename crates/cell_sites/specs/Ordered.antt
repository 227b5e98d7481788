-- Records that a map holds in byte order of their names. (Our own.)
use Rattle.std.specs.Prelude.{◌≡◌, ◌≤◌, ℕ, List, [], ◌∷◌, map}
use Rattle.words.specs.Ordered.{in_order}
use denote.Ref.{Bor}

-- a lent record under its name and its place in a list
abbrev pub Entry : Type 0 → Type 0
Entry X = (Bor (List ℕ) × ℕ) × Bor X

-- each record stands under its own name, and at a place from a least one on
abbrev pub AreKeyed : {X : Type 0} → (X → List ℕ) → ℕ → List (Entry X) → Type 0
AreKeyed name least [] = Unit {0}
AreKeyed name least (e ∷ es) = (e.0.0.now ≡ name e.1.now) × ((least ≤ e.0.1) × AreKeyed name least es)

-- the records of a list whose first stands at a place are held in order
pub record HoldsInOrder {X : Type 0} (name : X → List ℕ) (place : ℕ) (items : List X) (entries : List (Entry X)) : Type 0 where
  pub ordered : map (λ e. e.1.now) entries ≡ in_order name items
  pub keyed : AreKeyed name place entries
