-- The muxes of each tile type by slots. (Our own.)
use Rattle.std.specs.Prelude.{ℕ, List, [], map, Option, option_and_then, slice_get}
use Rattle.std.specs.Option.{option_map_or}
use Rattle.tile_types.specs.Slots.{TypeSlots}
use Rattle.tile_types.specs.Types.{Types}
use Rattle.tile_parts.specs.Slots.{MuxSlots, mux_slots}

-- those of a type; one without a database has none
abbrev pub type_shapes : TypeSlots → List MuxSlots
type_shapes t = map (mux_slots t.names) (option_map_or (λ db. db.muxes) t.db [])

-- those of the type of a tile
abbrev pub shapes_at : List (List MuxSlots) → Types → ℕ → Option (List MuxSlots)
shapes_at shapes types tile = option_and_then (slice_get shapes) (slice_get types.tiles tile)
