-- Which wires wait in a queue, and under which weights.
use Rattle.std.specs.Prelude.{◌≡◌, ℕ, ◌+◌, ◌-◌, ◌≤◌, List, length, ◌⊎◌}
use Rattle.words.specs.Members.{In}

-- the greatest weight
abbrev pub most : ℕ
most = 18446744073709551615

-- the wire waits under a weight; the queue keeps by how much the weight is below the greatest
abbrev pub Waits : List (ℕ × ℕ) → ℕ → ℕ → Type 0
Waits queue weight w = In queue (most - weight, w)

-- those that waited still do
abbrev pub Stay : List (ℕ × ℕ) → List (ℕ × ℕ) → Type 0
Stay old new = (weight w : ℕ) → Waits old weight w → Waits new weight w

-- a wire was let in under a weight
pub record LetIn (old new : List (ℕ × ℕ)) (weight w : ℕ) : Type 0 where
  pub waits : Waits new weight w
  pub stay : Stay old new
  pub others : (entry : ℕ × ℕ) → In new entry → (entry.1 ≡ w) ⊎ In old entry
  pub count : length new ≡ length old + 1

-- a wire left the queue: it waited, none of those left is lighter, and no other left
pub record Leaves (old new : List (ℕ × ℕ)) (weight w : ℕ) : Type 0 where
  pub waited : Waits old weight w
  pub stay : (other x : ℕ) → other ≤ most → Waits old other x → ((other ≡ weight) × (x ≡ w)) ⊎ Waits new other x
  pub least : (other x : ℕ) → other ≤ most → Waits new other x → weight ≤ other
  pub others : (entry : ℕ × ℕ) → In new entry → In old entry
  pub count : length new + 1 ≡ length old
