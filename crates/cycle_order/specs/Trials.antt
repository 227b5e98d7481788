-- Links as rows, and what holds while nodes are listed along them. (Our own.)
use Rattle.std.specs.Prelude.{◌≡◌, ℕ, ◌<◌, ◌⊎◌, List, [], ◌++◌, length, get_or}
use Rattle.words.specs.Members.{In}
use Rattle.cycle_order.specs.Orders.{IsInTurn}

-- the row of a node holds another
abbrev pub IsNext : List (List ℕ) → ℕ → ℕ → Type 0
IsNext rows u v = In (get_or rows u []) v

-- each node of a row has a row
abbrev pub AreWithin : List (List ℕ) → Type 0
AreWithin rows = (u v : ℕ) → IsNext rows u v → v < length rows

-- rows of the nodes to which links lead, and of those from which they do
pub record AreOpposite (next before : List (List ℕ)) : Type 0 where
  pub long : length next ≡ length before
  pub next_within : AreWithin next
  pub before_within : AreWithin before
  pub back : (u v : ℕ) → IsNext next u v → IsNext before v u
  pub forth : (u v : ℕ) → IsNext before v u → IsNext next u v

-- a node to which one leads that isn't listed
abbrev pub Waits : List (List ℕ) → List ℕ → ℕ → Type 0
Waits before nodes v = (u : ℕ) × (IsNext before v u × (In nodes u → ⊥))

-- nodes were listed behind others, each after all that lead to it
pub record Grows (before : List (List ℕ)) (old new : List ℕ) : Type 0 where
  pub added : List ℕ
  pub is : new ≡ old ++ added
  pub turn : IsInTurn (λ u v. IsNext before v u) old → IsInTurn (λ u v. IsNext before v u) new
  pub within : ((v : ℕ) → In old v → v < length before) → (v : ℕ) → In new v → v < length before

-- a node was tried: it is listed, or waited
pub record Tries (before : List (List ℕ)) (old : List ℕ) (v : ℕ) (new : List ℕ) : Type 0 where
  pub grows : Grows before old new
  pub tried : In new v ⊎ Waits before old v

-- the nodes of a row were tried
pub record TriesAll (before : List (List ℕ)) (old row new : List ℕ) : Type 0 where
  pub grows : Grows before old new
  pub tried : (v : ℕ) → In row v → In new v ⊎ Waits before old v

-- No more nodes can be listed: they are in turn, and each other one waits.
pub record IsTrimmed (before : List (List ℕ)) (nodes : List ℕ) : Type 0 where
  pub turn : IsInTurn (λ u v. IsNext before v u) nodes
  pub within : (v : ℕ) → In nodes v → v < length before
  pub left : (v : ℕ) → v < length before → In nodes v ⊎ Waits before nodes v

-- a node was listed, behind others that were listed, unless it was one of them
pub record ListsOne (old : List ℕ) (v : ℕ) (new : List ℕ) : Type 0 where
  pub added : List ℕ
  pub is : new ≡ old ++ added
  pub has : In new v
  pub only : (w : ℕ) → In new w → In old w ⊎ (v ≡ w)

-- the nodes of a row were listed, behind others that were listed
pub record ListsRow (old row new : List ℕ) : Type 0 where
  pub added : List ℕ
  pub is : new ≡ old ++ added
  pub all : (v : ℕ) → In row v → In new v
  pub only : (v : ℕ) → In new v → In old v ⊎ In row v
