-- Places in lists. (Our own.)
use Rattle.std.specs.Prelude.{◌≡◌, ◌⊎◌, ◌≤◌, ℕ, suc, Bool, true, List, [], ◌∷◌, if◌then◌else◌}
use Rattle.words.specs.Members.{In}

-- the places where a test passes, where the first element stands at place k
abbrev pub places_where : {X : Type 0} → (X → Bool) → ℕ → List X → List ℕ
places_where test k [] = []
places_where test k (x ∷ xs) = if test x then k ∷ places_where test (suc k) xs else places_where test (suc k) xs

-- the greatest size of an element that passes, or 0 where none does
pub record IsMost {X : Type 0} (test : X → Bool) (size : X → ℕ) (xs : List X) (most : ℕ) : Type 0 where
  pub above : (x : X) → In xs x → test x ≡ true → size x ≤ most
  pub reached : (most ≡ 0) ⊎ ((x : X) × (In xs x × ((test x ≡ true) × (size x ≡ most))))
