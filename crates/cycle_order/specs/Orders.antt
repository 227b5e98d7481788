-- Nodes and the links between them: orders of nodes, and nodes that reach themselves. (Our own.)
use Rattle.std.specs.Prelude.{ℕ, ◌<◌, ◌≤◌, ◌↔◌, List, length, take, slice_index}
use Rattle.std.specs.List.{zip}
use Rattle.words.specs.Members.{In}
use Rattle.links.specs.Links.{Reaches}
use Rattle.cycle_order.specs.declared.error.OrderError.{OrderError}
use Rattle.cycle_order.specs.declared.error.OrderError.TheVariants.{Loop, Memory}

-- a link leads from a node to another, where each source stands beside its sink
abbrev pub Leads : List ℕ → List ℕ → ℕ → ℕ → Type 0
Leads sources sinks u v = In (zip sources sinks) (u, v)

-- a node reaches itself in one step or more
abbrev pub IsOnCycle : (ℕ → ℕ → Type 0) → ℕ → Type 0
IsOnCycle Step v = (u : ℕ) × (Step v u × Reaches Step u v)

-- of the nodes that reach themselves the least
pub record IsLeastOnCycle (Step : ℕ → ℕ → Type 0) (v : ℕ) : Type 0 where
  pub on : IsOnCycle Step v
  pub least : (u : ℕ) → IsOnCycle Step u → v ≤ u

-- no node of a list stands before itself, and each stands after all that lead to it
pub record IsInTurn (Step : ℕ → ℕ → Type 0) (order : List ℕ) : Type 0 where
  pub apart : (k : ℕ) → k < length order → In (take k order) (slice_index order k) → ⊥
  pub after : (k u : ℕ) → k < length order → Step u (slice_index order k) → In (take k order) u

-- all nodes below a count in turn
pub record IsOrder (count : ℕ) (Step : ℕ → ℕ → Type 0) (order : List ℕ) : Type 0 where
  pub all : (v : ℕ) → In order v ↔ (v < count)
  pub turn : IsInTurn Step order

-- an error names the least node that reaches itself; want of memory says nothing of them
abbrev pub Refuses : (ℕ → ℕ → Type 0) → OrderError → Type 0
Refuses Step (Loop v) = IsLeastOnCycle Step v
Refuses Step Memory = Unit {0}
