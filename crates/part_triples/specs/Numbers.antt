-- The number of the triple in which the cell of each part stands. (Our own.)
use Rattle.std.specs.Prelude.{◌≡◌, ℕ, List, map, position, slice_get, Option, None, Some}
use Rattle.records.specs.Side.{Side}
use Rattle.circuit.specs.Parts.{Source}
use Rattle.circuit.specs.Triples.{all_triples, is_entry, triple_of}

-- the place of the first triple in which a name stands
abbrev pub number_of : Side → List ℕ → Option ℕ
number_of side name = position (is_entry name) (all_triples side)

-- the number of the triple of each part's cell
abbrev pub numbers_of : Side → List Source → List (Option ℕ)
numbers_of side parts = map (λ s. number_of side s.part.cell) parts

-- two names stand in triples with one number, or each stands in none and they are equal
abbrev pub SameCells : Option ℕ → Option ℕ → List ℕ → List ℕ → Type 0
SameCells (Some m) (Some n) a b = m ≡ n
SameCells (Some m) None a b = ⊥
SameCells None (Some n) a b = ⊥
SameCells None None a b = a ≡ b

-- the parts with two numbers have one triple: they are copies of each other, or one part
pub record AreCopies (side : Side) (all : List Source) (a b : ℕ) : Type 0 where
  pub first : Source
  pub second : Source
  pub first_at : slice_get all a ≡ Some first
  pub second_at : slice_get all b ≡ Some second
  pub same : triple_of side first.part ≡ triple_of side second.part
