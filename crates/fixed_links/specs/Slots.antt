-- The fixed connections and cell outputs of a tile type by slots, and their wires in a tile. (Our own.)
use Rattle.std.specs.Prelude.{ℕ, List, map, filter_map, Option, option_map, option_and_then}
use Rattle.records.specs.Database.{Fixed}
use Rattle.records.specs.Grid.{Tile}
use Rattle.links.specs.Links.{Link}
use Rattle.fabric.specs.Device.{Device, fixed_at, output_names}
use Rattle.name_numbers.specs.Numbers.{number_of}
use Rattle.tile_types.specs.Types.{slot_names}
use Rattle.tile_parts.specs.Slots.{wire_at}

-- a fixed connection by the slots of its names, where these count
pub record FixedSlots : Type 0 where
  pub sink : Option ℕ
  pub source : Option ℕ

abbrev pub fixed_slots : List (List ℕ) → Fixed → FixedSlots
fixed_slots names fixed = record { sink = number_of names fixed.sink; source = number_of names fixed.source }

-- the fixed connections and joins of a tile type, and the outputs of the cells at its sites
pub record TypeLinks : Type 0 where
  pub fixed : List FixedSlots
  pub outputs : List (Option ℕ)

abbrev pub type_links : Device → Tile → TypeLinks
type_links device tile = record {
  fixed = map (fixed_slots (slot_names device tile)) (fixed_at device tile);
  outputs = map (number_of (slot_names device tile)) (output_names device tile);
}

-- the link of a fixed connection in a tile's row of wires, where both its names have wires
abbrev pub link_at : List (Option ℕ) → FixedSlots → Option Link
link_at row fixed = option_and_then (λ sink. option_map (λ source. record { source = source; sink = sink }) (wire_at row fixed.source)) (wire_at row fixed.sink)

-- those of a tile, by its row of wires
abbrev pub links_in : List (Option ℕ) → List FixedSlots → List Link
links_in row fixed = filter_map (link_at row) fixed

abbrev pub outputs_in : List (Option ℕ) → List (Option ℕ) → List ℕ
outputs_in row slots = filter_map (wire_at row) slots
