-- The muxes of a tile type by slots, and their wires in a tile. (Our own.)
use Rattle.std.specs.Prelude.{ℕ, List, map, filter_map, slice_get, Option, option_map, option_and_then}
use Rattle.std.specs.List.{enumerate_from}
use Rattle.records.specs.Database.{Mux}
use Rattle.name_numbers.specs.Numbers.{number_of}
use Rattle.mux_rows.specs.MuxTable.{MuxNumbers}
use Rattle.graph_lists.specs.ArcLists.{ArcNumbers}

-- a mux by the slots of its names, where these count
pub record MuxSlots : Type 0 where
  pub sink : Option ℕ
  pub sources : List (Option ℕ)

abbrev pub mux_slots : List (List ℕ) → Mux → MuxSlots
mux_slots names mux = record { sink = number_of names mux.sink; sources = map (λ a. number_of names a.source) mux.arcs }

-- the wire of a slot in the row of a tile
abbrev pub wire_at : List (Option ℕ) → Option ℕ → Option ℕ
wire_at row slot = option_and_then (λ s. option_and_then (λ wire. wire) (slice_get row s)) slot

-- the muxes of a tile, by the slots of its type and its row of wires
abbrev pub muxes_in : ℕ → List (Option ℕ) → List MuxSlots → List MuxNumbers
muxes_in tile row shapes = filter_map (λ m. option_map (λ sink. record { tile = tile; place = m.0; sink = sink }) (wire_at row m.1.sink)) (enumerate_from 0 shapes)

-- the arcs of a mux that drives a sink, by its slots and its tile's row of wires
abbrev pub arcs_in : List (Option ℕ) → ℕ → ℕ → List (Option ℕ) → List ArcNumbers
arcs_in row mux sink sources = filter_map (λ a. option_map (λ source. record { mux = mux; place = a.0; source = source; sink = sink }) (wire_at row a.1)) (enumerate_from 0 sources)
