-- The wires of the slots of tiles. (Our own.)
use Rattle.std.specs.Prelude.{ℕ, List, filter_map}
use Rattle.records.specs.Grid.{Tile}
use Rattle.fabric.specs.Wires.{Wire}
use Rattle.fabric.specs.Device.{Device}
use Rattle.fabric.specs.TileWires.{wire_in}
use Rattle.wire_names.specs.Kept.{IsShortOrIgnored}
use Rattle.wire_names.specs.Slots.{slot_at}
use Rattle.wire_names.specs.declared.slot.Slot.{Slot}
use Rattle.tile_types.specs.Types.{slot_names}

-- what the slot stands for can be kept at each place, unless it is ignored
abbrev pub CanBeKeptAnywhere : Slot → Type 0
CanBeKeptAnywhere slot = (row column : ℕ) → IsShortOrIgnored (slot_at (row, column) slot)

-- the wires of the slots of a tile's type, in the tile
abbrev pub slot_wires : Device → Tile → List Wire
slot_wires device tile = filter_map (wire_in device.profile.rules tile) (slot_names device tile)
