-- What a flip does to wires, over a graph and an image alone. (Our own.)
use Rattle.std.specs.Prelude.{◌≡◌, ◌≢◌, ◌↔◌, ◌⊎◌, ℕ, true, List}
use Rattle.std.specs.Ordering.{nat_cmp}
use Rattle.words.specs.Members.{In}
use Rattle.patterns.specs.Bits.{Bits}
use Rattle.links.specs.Links.{Drives, Upstream}
use Rattle.fabric.specs.InOrder.{IsRising}
use Rattle.fabric.specs.Graph.{GraphArc, Graph}
use Rattle.fabric.specs.Links.{routing_of}
use Rattle.upset.specs.After.{is_affected, routing_after}

-- the list has the numbers with a property, in order, each once
pub record AreThose (P : ℕ → Type 0) (xs : List ℕ) : Type 0 where
  pub rising : IsRising nat_cmp xs
  pub members : (x : ℕ) → In xs x ↔ P x

-- the sources of a wire before the flip, and after it
abbrev pub IsBefore : Graph → Bits → ℕ → ℕ → Type 0
IsBefore g image w x = Drives (routing_of g image) x w

abbrev pub IsAfter : Graph → Bits → Bits → ℕ → ℕ → Type 0
IsAfter g image flips w x = Drives (routing_after g image flips) x w

-- an affected mux drives the wire
abbrev pub IsDriven : Graph → Bits → ℕ → Type 0
IsDriven g flips w = (a : GraphArc) × (In g.arcs a × ((is_affected g flips a.mux ≡ true) × (a.sink ≡ w)))

-- a source of the wire is new, or one is gone
abbrev pub IsChanged : Graph → Bits → Bits → ℕ → Type 0
IsChanged g image flips w = (x : ℕ) × ((IsAfter g image flips w x × (IsBefore g image w x → ⊥)) ⊎ (IsBefore g image w x × (IsAfter g image flips w x → ⊥)))

abbrev pub IsHitIn : Graph → Bits → Bits → ℕ → Type 0
IsHitIn g image flips w = IsDriven g flips w × IsChanged g image flips w

-- the wire has two sources after the flip, or is a cell output and has one
abbrev pub IsJoined : Graph → Bits → Bits → ℕ → Type 0
IsJoined g image flips w =
    ((x : ℕ) × ((y : ℕ) × (IsAfter g image flips w x × IsAfter g image flips w y × (x ≢ y)))) ⊎ (In g.outputs w × ((x : ℕ) × IsAfter g image flips w x))

-- a source of a wire that is hit and joined
abbrev pub IsShortSourceIn : Graph → Bits → Bits → ℕ → Type 0
IsShortSourceIn g image flips x = (w : ℕ) × (IsHitIn g image flips w × (IsJoined g image flips w × IsAfter g image flips w x))

-- back from one of some wires along counting drivers
abbrev pub IsBehind : Graph → Bits → List ℕ → ℕ → Type 0
IsBehind g image sources w = (x : ℕ) × (In sources x × Upstream (routing_of g image) x w)

abbrev pub IsDisturbedIn : Graph → Bits → Bits → ℕ → Type 0
IsDisturbedIn g image flips w = IsHitIn g image flips w ⊎ ((x : ℕ) × (IsShortSourceIn g image flips x × Upstream (routing_of g image) x w))
