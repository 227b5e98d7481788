-- The effect of a flip of device bits: the wires that are hit, shorted and disturbed, and the cells that are
-- touched. (Our own, after the shorts and opens of RoRA, and pessimistic.)
use Rattle.std.specs.Prelude.{◌≡◌, ◌≢◌, ℕ, true, List, ◌++◌, map, filter, ◌⊎◌, ◌↔◌}
use Rattle.std.specs.List.{list_any}
use Rattle.words.specs.Members.{In}
use Rattle.patterns.specs.Bits.{Bits}
use Rattle.links.specs.Links.{Drives, Upstream}
use Rattle.fabric.specs.Graph.{GraphArc}
use Rattle.fabric.specs.Links.{routing_of}
use Rattle.circuit.specs.Cells.{Cells}
use Rattle.circuit.specs.Faults.{Fault}
use Rattle.upset.specs.Configured.{Configured}
use Rattle.upset.specs.After.{is_affected, routing_after}

-- x is a source of w before the flip, with or without a feed
abbrev pub Before : Configured → ℕ → ℕ → Type 0
Before k x w = Drives (routing_of k.graph k.image) x w

-- x is a source of w after it
abbrev pub After : Configured → Bits → ℕ → ℕ → Type 0
After k flips x w = Drives (routing_after k.graph k.image flips) x w

-- A wire is hit when an affected mux drives it and its sources after the flip are others than before: one is
-- new, or one is gone.
pub record IsHit (k : Configured) (flips : Bits) (w : ℕ) : Type 0 where
  pub arc : GraphArc
  pub listed : In k.graph.arcs arc
  pub affected : is_affected k.graph flips arc.mux ≡ true
  pub drives : arc.sink ≡ w
  pub source : ℕ
  pub differs : (After k flips source w × (Before k source w → ⊥)) ⊎ (Before k source w × (After k flips source w → ⊥))

-- two sources drive the wire after the flip
abbrev pub HasTwoAfter : Configured → Bits → ℕ → Type 0
HasTwoAfter k flips w = (x : ℕ) × ((y : ℕ) × (After k flips x w × After k flips y w × (x ≢ y)))

-- a cell output has a source after the flip
abbrev pub DrivesOutput : Configured → Bits → ℕ → Type 0
DrivesOutput k flips w = In k.graph.outputs w × ((x : ℕ) × After k flips x w)

-- A hit wire is shorted when it has two sources after the flip, or when it is a cell output and has one.
pub record IsShorted (k : Configured) (flips : Bits) (w : ℕ) : Type 0 where
  pub hit : IsHit k flips w
  pub joined : HasTwoAfter k flips w ⊎ DrivesOutput k flips w

-- a source of a shorted wire
pub record IsShortSource (k : Configured) (flips : Bits) (x : ℕ) : Type 0 where
  pub sink : ℕ
  pub shorted : IsShorted k flips sink
  pub after : After k flips x sink

-- back from a source of a shorted wire along the counting drivers that stood before the flip
abbrev pub BehindShort : Configured → Bits → ℕ → Type 0
BehindShort k flips w = (x : ℕ) × (IsShortSource k flips x × Upstream (routing_of k.graph k.image) x w)

-- Disturbed are the hit wires, the sources of each shorted wire, and from each such source its counting driver
-- before the flip, and so on back to the cell output.
abbrev pub IsDisturbed : Configured → Bits → ℕ → Type 0
IsDisturbed k flips w = IsHit k flips w ⊎ BehindShort k flips w

-- the names of the cells that are touched: one of their settings names a bit that flips
abbrev pub touched_names : Cells → Bits → List (List ℕ)
touched_names cells flips =
    map (λ s. s.name) (filter (λ s. list_any flips s.bits) cells.slices) ++ map (λ p. p.name) (filter (λ p. list_any flips p.bits) cells.pads)

abbrev pub IsTouched : Configured → Bits → List ℕ → Type 0
IsTouched k flips name = In (touched_names k.cells flips) name

-- a fault of just the wires that are disturbed and the cells that are touched
pub record IsEffect (k : Configured) (flips : Bits) (f : Fault) : Type 0 where
  pub disturbed : (w : ℕ) → In f.disturbed w ↔ IsDisturbed k flips w
  pub touched : (name : List ℕ) → In f.touched name ↔ IsTouched k flips name
