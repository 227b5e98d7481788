-- The wires that affected muxes drive, as they are gathered. (Our own.)
use Rattle.std.specs.Prelude.{ℕ, List, [], ◌∷◌, flat_map, slice_get}
use Rattle.std.specs.Option.{option_map_or}
use Rattle.patterns.specs.Bits.{DeviceBit}
use Rattle.fabric.specs.Graph.{Graph}
use Rattle.graph_lists.specs.BitLists.{muxes_of_bit}

-- the wire that the mux of a number drives
abbrev pub sink_at : Graph → ℕ → List ℕ
sink_at g m = option_map_or (λ x. x.sink ∷ []) (slice_get g.muxes m) []

-- the wires that the muxes with a bit drive
abbrev pub bit_sinks : Graph → DeviceBit → List ℕ
bit_sinks g b = flat_map (sink_at g) (muxes_of_bit g b)
