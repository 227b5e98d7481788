-- Arcs of a graph by numbers, as a program keeps them. (Our own.)
use Rattle.std.specs.Prelude.{ℕ, List, ◌<◌}
use Rattle.std.specs.declared.cmp.Ordering.{Ordering}
use Rattle.std.specs.Ordering.{nat_cmp, ordering_then}
use Rattle.words.specs.Members.{In}
use Rattle.graph_lists.specs.ArcLists.{ArcNumbers, mux_order}

-- how many wires and muxes there are, and the arcs in arc order
pub record ArcTable : Type 0 where
  pub wires : ℕ
  pub muxes : ℕ
  pub arcs : List ArcNumbers

-- a number of each arc is below a count
abbrev pub AreBelow : (ArcNumbers → ℕ) → ℕ → List ArcNumbers → Type 0
AreBelow key count arcs = (a : ArcNumbers) → In arcs a → key a < count

-- by source, then in mux order
abbrev pub source_order : ArcNumbers → ArcNumbers → Ordering
source_order a b = ordering_then (nat_cmp a.source b.source) (mux_order a b)
