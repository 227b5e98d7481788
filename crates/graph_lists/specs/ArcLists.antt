-- The arcs and muxes at the wires and muxes of a graph, as lists of numbers that rise. (Our own.)
use Rattle.std.specs.Prelude.{ℕ, List, ◌==◌}
use Rattle.std.specs.declared.cmp.Ordering.{Ordering}
use Rattle.std.specs.Ordering.{nat_cmp, ordering_then}
use Rattle.fabric.specs.Graph.{GraphArc, Graph}
use Rattle.graph_lists.specs.Places.{places}

-- the arcs that leave a wire
abbrev pub arcs_out : Graph → ℕ → List ℕ
arcs_out g w = places (λ a. a.source == w) g.arcs

-- the arcs that lead into a wire
abbrev pub arcs_into : Graph → ℕ → List ℕ
arcs_into g w = places (λ a. a.sink == w) g.arcs

-- the arcs of a mux
abbrev pub arcs_in : Graph → ℕ → List ℕ
arcs_in g m = places (λ a. a.mux == m) g.arcs

-- the muxes that drive a wire
abbrev pub muxes_into : Graph → ℕ → List ℕ
muxes_into g w = places (λ m. m.sink == w) g.muxes

-- An arc by numbers alone: its mux, its place among the arcs of the mux in the database, and its two wires.
pub record ArcNumbers : Type 0 where
  pub mux : ℕ
  pub place : ℕ
  pub source : ℕ
  pub sink : ℕ

abbrev pub numbers_of : GraphArc → ArcNumbers
numbers_of a = record { mux = a.mux; place = a.place; source = a.source; sink = a.sink }

-- arc order, which hangs on numbers alone: by sink, source, mux, then place
abbrev pub numbers_cmp : ArcNumbers → ArcNumbers → Ordering
numbers_cmp a b = ordering_then (nat_cmp a.sink b.sink) (ordering_then (nat_cmp a.source b.source) (ordering_then (nat_cmp a.mux b.mux) (nat_cmp a.place b.place)))

-- mux order: by mux, then place
abbrev pub mux_order : ArcNumbers → ArcNumbers → Ordering
mux_order a b = ordering_then (nat_cmp a.mux b.mux) (nat_cmp a.place b.place)
