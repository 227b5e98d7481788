-- The fixed connections that a reader knows already, by ends lent from the source.
use Rattle.std.specs.Prelude.{◌≡◌, ℕ, List}
use Rattle.std.specs.BTreeSet.{BTreeSet, contains}
use Rattle.std.specs.Cmp.Lexicographic.{slice_cmp}
use Rattle.std.specs.Ordering.{nat_cmp, ordering_then}
use Rattle.std.specs.declared.cmp.Ordering.{Ordering}
use denote.Ref.{Bor}
use Rattle.records.specs.Database as records
use Rattle.grammars.specs.RowByRow.{has_connection}

-- a sink and a source
abbrev pub Ends : Type 0
Ends = Bor (List ℕ) × Bor (List ℕ)

-- ends go by sink, and then by source
abbrev pub ends_order : Ends → Ends → Ordering
ends_order a b = ordering_then (slice_cmp nat_cmp a.0.now b.0.now) (slice_cmp nat_cmp a.1.now b.1.now)

-- the connection of ends
abbrev pub connection_of : Ends → records.Fixed
connection_of ends = record { sink = ends.0.now; source = ends.1.now }

-- the set holds just the ends of the connections
abbrev pub KnowsEnds : List records.Fixed → BTreeSet Ends → Type 0
KnowsEnds connections ends = (q : Ends) → contains ends_order ends q ≡ has_connection connections (connection_of q)
