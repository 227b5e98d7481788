-- The links that tables make between parts with an output, by numbers. (Our own.)
use Rattle.std.specs.Prelude.{ℕ, ◌+◌, Bool, true, false, List, [], ◌∷◌, ◌++◌, slice_range, Option, None, Some, if◌then◌else◌}
use Rattle.circuit.specs.Cells.{Cells}
use Rattle.circuit.specs.Parts.{Kind, OfTable, OfRegister, OfInput, OfClock, Source, sources}
use Rattle.circuit_parts.specs.Flat.{first_pin}
use Rattle.net_order.specs.declared.feeding.TableLink.{TableLink}

abbrev pub is_table : Kind → Bool
is_table (OfTable t) = true
is_table (OfRegister r) = false
is_table OfInput = false
is_table OfClock = false

-- the links into the part with this number, from the parts that feed its pins
abbrev pub links_into : ℕ → List (Option ℕ) → List TableLink
links_into k [] = []
links_into k (None ∷ feeds) = links_into k feeds
links_into k (Some j ∷ feeds) = record { source = j; table = k } ∷ links_into k feeds

-- the same, where the part is a table
abbrev pub links_of : ℕ → Kind → List (Option ℕ) → List TableLink
links_of k kind feeds = if is_table kind then links_into k feeds else []

-- the links into parts that are numbered from a number on, where the pins of each part have their feeds in a row
abbrev pub links_from : Cells → List (Option ℕ) → ℕ → List Source → List TableLink
links_from cells feeds n [] = []
links_from cells feeds n (s ∷ ss) = links_of n s.kind (slice_range feeds (first_pin cells n) (first_pin cells (n + 1))) ++ links_from cells feeds (n + 1) ss

-- all links into tables
abbrev pub links_with : Cells → List (Option ℕ) → List TableLink
links_with cells feeds = links_from cells feeds 0 (sources cells)
